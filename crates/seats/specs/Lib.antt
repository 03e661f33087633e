pub mod Seats
pub mod Rooms
pub mod Invariants
pub mod Outcomes
pub mod Scans
pub mod TakeTexts
