pub mod BitLemmas
pub mod StepLemmas
