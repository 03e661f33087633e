pub mod Buffers
pub mod Records
pub mod Faults
pub mod Naming
pub mod Reading
pub mod Readers
pub mod Files
