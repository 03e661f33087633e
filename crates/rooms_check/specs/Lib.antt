pub mod Hands
pub mod Written
