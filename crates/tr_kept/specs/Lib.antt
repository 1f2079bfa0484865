pub mod Generations
pub mod KeptReading
pub mod KeptSpelling
pub mod KnownPut
pub mod Laws
