pub mod Showing
pub mod Jobs
pub mod Closing
pub mod Opening
pub mod Codes
