pub mod Streams
pub mod Filling
