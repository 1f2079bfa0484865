pub mod Finds
pub mod Laws
pub mod Moved
pub mod Starts
pub mod Tests
pub mod Utilities
pub mod Walking
pub mod Words
