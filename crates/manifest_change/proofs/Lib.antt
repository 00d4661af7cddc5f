pub mod RowLemmas
pub mod EachLemmas
pub mod ChangeLemmas
pub mod BackLemmas
