pub mod CanonicalLemmas
pub mod PathLemmas
pub mod MovedLemmas
pub mod WithinLemmas
pub mod SortLemmas
