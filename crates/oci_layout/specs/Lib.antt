pub mod Layout
pub mod Source
pub mod Destination
pub mod Written
