pub mod ListLemmas
pub mod LoopLemmas
mod PlanLemmas
