pub mod GenerationLemmas
pub mod GenerationsReadLemmas
pub mod HeadedLemmas
pub mod KeptBodyLemmas
pub mod KeptPutLemmas
pub mod KeptSealLemmas
pub mod KnownLemmas
pub mod KnownPutLemmas
