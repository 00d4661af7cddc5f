pub mod LoopLemmas
pub mod ChoiceLemmas
pub mod RelationLemmas
pub mod BadLemmas
pub mod WrittenLemmas
