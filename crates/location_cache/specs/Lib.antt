pub mod Rule
pub mod Seats
pub mod Rows
pub mod Offers
