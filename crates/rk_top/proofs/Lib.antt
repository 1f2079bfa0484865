pub mod AskLemmas
pub mod GeneratedLemmas
pub mod OneLineLemmas
pub mod QueryLemmas
pub mod ServeLemmas
pub mod RecoverLemmas
