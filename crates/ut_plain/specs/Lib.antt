pub mod Laws
pub mod Moved
pub mod Names
pub mod Starts
pub mod TeeLaws
pub mod TeeStages
pub mod Tees
pub mod Utilities
