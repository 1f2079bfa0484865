pub mod Named
pub mod Choices
pub mod Marks
pub mod Modes
