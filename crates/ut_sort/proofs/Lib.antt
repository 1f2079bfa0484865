pub mod DistinctLemmas
pub mod FieldLemmas
pub mod LineLemmas
pub mod NumberLemmas
pub mod OrderLemmas
pub mod OrderedLemmas
