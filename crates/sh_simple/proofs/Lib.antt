pub mod Hearing
pub mod Built
