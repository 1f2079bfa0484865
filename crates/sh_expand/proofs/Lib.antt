pub mod ArithmeticLemmas
pub mod AssignmentLemmas
pub mod MachineLemmas
pub mod Bodies
pub mod NumberLemmas
pub mod PartLemmas
pub mod PlainLemmas
pub mod AlikeLemmas
