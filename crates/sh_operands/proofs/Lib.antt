pub mod Capping
pub mod Filling
pub mod FormatLemmas
pub mod UseLemmas
pub mod Values
pub mod Widths
