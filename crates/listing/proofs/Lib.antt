pub mod Found
pub mod Holding
pub mod Pieces
