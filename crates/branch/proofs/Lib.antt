pub mod Chunking
pub mod Leading
pub mod Dispatching
pub mod Opening
pub mod Pieces
pub mod Finishing
