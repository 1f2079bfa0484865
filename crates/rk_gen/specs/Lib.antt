pub mod Draws
pub mod Lines
pub mod Scripts
pub mod Start
pub mod Edits
pub mod Summary
pub mod Changed
pub mod Visible
