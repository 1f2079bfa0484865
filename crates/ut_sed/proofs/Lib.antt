pub mod ChangeLemmas
pub mod EditLemmas
pub mod LineLemmas
pub mod ScriptLemmas
pub mod SpanLemmas
pub mod SubstituteLemmas
pub mod TakenLemmas
