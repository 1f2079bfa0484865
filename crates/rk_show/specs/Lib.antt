pub mod Traces
pub mod Json
pub mod Shown
pub mod Commands
pub mod Ran
