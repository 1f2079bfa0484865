pub mod Finding
pub mod GenerationLemmas
pub mod KeepingLemmas
pub mod KeyLemmas
pub mod PlacesLemmas
pub mod PoolLemmas
