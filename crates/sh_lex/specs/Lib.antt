pub mod Takes
pub mod Tokenizing
