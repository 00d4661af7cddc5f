pub mod Faults
pub mod Said
pub mod Deletes
pub mod Lists
pub mod Calls
