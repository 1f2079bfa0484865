pub mod Hearing
pub mod Redirected
pub mod Refused
pub mod LiteralLemmas
