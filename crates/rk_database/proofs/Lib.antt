pub mod CallLemmas
pub mod TextLemmas
pub mod AnswerLemmas
