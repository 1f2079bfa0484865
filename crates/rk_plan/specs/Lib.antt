pub mod Causes
pub mod Retracing
pub mod Going
pub mod Plans
pub mod Laws
