pub mod GateLemmas
pub mod JobLemmas
pub mod CountLemmas
pub mod AdmitLemmas
pub mod WalkLemmas
