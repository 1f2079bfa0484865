pub mod DrawLemmas
pub mod PathLemmas
pub mod PlainLemmas
pub mod FileLemmas
pub mod CanonicalLemmas
