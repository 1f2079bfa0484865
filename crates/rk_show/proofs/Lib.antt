pub mod JsonLemmas
pub mod CountedLemmas
pub mod PartLemmas
