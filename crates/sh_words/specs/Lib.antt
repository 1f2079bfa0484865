pub mod Making
pub mod Literal
