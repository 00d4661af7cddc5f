pub mod Heads
pub mod Outside
pub mod Answered
pub mod Words
pub mod Image
pub mod Question
