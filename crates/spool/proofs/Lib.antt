pub mod Rows
pub mod Decoded
pub mod Kept
pub mod Bits
pub mod Bytes
pub mod Picks
pub mod Steps
pub mod Table
