pub mod PartLemmas
pub mod CourseLemmas
pub mod PlaceLemmas
