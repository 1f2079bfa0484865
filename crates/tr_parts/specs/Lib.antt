pub mod Piece
pub mod Reading
pub mod Reads
pub mod Sealed
pub mod Whole
