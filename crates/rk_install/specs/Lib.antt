pub mod Asked
pub mod Calls
pub mod Halfway
pub mod Install
pub mod Known
pub mod Looks
pub mod Recovery
