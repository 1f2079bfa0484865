pub mod WalkLemmas
pub mod WordLemmas
