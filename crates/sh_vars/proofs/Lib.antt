pub mod NameMap
pub mod RowsLemmas
pub mod TreeLemmas
