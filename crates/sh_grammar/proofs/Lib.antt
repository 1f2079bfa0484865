pub mod Numbers
pub mod Modes
mod Tables
pub mod Gathering
