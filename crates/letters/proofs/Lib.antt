pub mod Bounded
pub mod Readiness
pub mod Passing
