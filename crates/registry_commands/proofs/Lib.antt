pub mod WireLemmas
pub mod DeleteLemmas
pub mod SaidLemmas
pub mod ListLemmas
