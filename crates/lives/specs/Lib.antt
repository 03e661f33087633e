pub mod Traces
pub mod Reachability
pub mod Drawing
pub mod Guarantees
