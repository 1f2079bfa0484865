pub mod Tokens
pub mod Finding
pub mod Turns
pub mod Answering
pub mod Readings
