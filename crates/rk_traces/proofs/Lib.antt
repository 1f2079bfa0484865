pub mod Checks
pub mod Feeds
