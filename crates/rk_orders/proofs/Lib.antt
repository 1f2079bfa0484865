pub mod AnsweredLemmas
pub mod HeldLemmas
pub mod AskLemmas
pub mod StepLemmas
pub mod RunLemmas
pub mod ConflictLemmas
pub mod WaveLemmas
pub mod OrderLemmas
