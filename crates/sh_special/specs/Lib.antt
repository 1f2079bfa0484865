pub mod Changes
pub mod Invocation
pub mod Lines
pub mod Orders
pub mod Settings
