pub mod Maps
pub mod LawLemmas
