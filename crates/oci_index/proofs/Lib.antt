pub mod EntriesSoFar
pub mod NumberLemmas
pub mod IndexLemmas
pub mod ChosenLemmas
pub mod EditedLemmas
