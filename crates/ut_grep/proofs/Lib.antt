pub mod GrowingLemmas
pub mod OccursLemmas
pub mod OrderLemmas
pub mod PassingLemmas
pub mod PatternLemmas
pub mod ReadingLemmas
pub mod SoughtLemmas
pub mod TrieLemmas
