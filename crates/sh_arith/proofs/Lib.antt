mod Capping
mod Complete
mod Correct
mod Fitting
mod Joining
mod Lexing
mod Running
mod Simulates
mod Sound
mod Texts
mod Trees
mod Valued
pub mod Worths
