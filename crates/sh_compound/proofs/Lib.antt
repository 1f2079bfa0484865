pub mod Branching
pub mod ByKind
pub mod Entered
pub mod Looping
pub mod Named
