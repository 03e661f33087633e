pub mod Converge
pub mod Sheets
pub mod Scans
pub mod Inserts
pub mod Orders
pub mod Rising
pub mod Removing
pub mod Replacing
