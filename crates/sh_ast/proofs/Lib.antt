pub mod Folding
mod Places
