pub mod Attributes
pub mod Fetched
pub mod Holdings
pub mod Imported
pub mod Planned
