pub mod Scopes
pub mod Chosen
pub mod Calls
pub mod Seen
