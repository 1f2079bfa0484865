pub mod AgainLemmas
pub mod LoopLemmas
pub mod SealLemmas
