pub mod BuilderLemmas
pub mod MadeLemmas
