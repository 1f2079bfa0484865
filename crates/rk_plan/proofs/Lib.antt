pub mod PlanLemmas
pub mod RetraceLemmas
pub mod RetracedLemmas
