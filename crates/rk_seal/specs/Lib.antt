pub mod Effects
pub mod Laws
pub mod Ops
pub mod Plans
pub mod Reading
pub mod Spelling
