pub mod Totals
pub mod Steps
pub mod RowLemmas
pub mod Learning
pub mod Offering
