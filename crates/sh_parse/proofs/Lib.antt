mod Turning
mod Whole
mod Sourced
mod Lines
mod Pushed
