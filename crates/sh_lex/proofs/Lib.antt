pub mod Tokenized
pub mod Popping
pub mod AsRead
