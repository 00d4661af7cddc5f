pub mod Secured
pub mod Lane
pub mod Lent
pub mod Passed
