pub mod Attrs
pub mod Laws
pub mod RowReading
