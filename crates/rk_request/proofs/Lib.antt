pub mod CommandLineLemmas
pub mod DecimalLemmas
pub mod FormsLemmas
pub mod TurnsLemmas
