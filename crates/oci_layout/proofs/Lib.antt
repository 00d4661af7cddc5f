pub mod PathLemmas
pub mod FoundLemmas
pub mod JudgedLemmas
pub mod PutLemmas
pub mod MadeLemmas
