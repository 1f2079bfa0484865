pub mod Machine
pub mod Starting
