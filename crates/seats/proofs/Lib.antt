pub mod Tables
pub mod Turning
pub mod Searches
pub mod Readiness
pub mod Clocks
pub mod Views
pub mod Accepted
