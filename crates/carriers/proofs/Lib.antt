pub mod Appended
pub mod Closing
pub mod Counts
pub mod Decisions
pub mod Gained
pub mod Removed
pub mod Rows
pub mod Sending
