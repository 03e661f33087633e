pub mod RowOrder
pub mod Timelines
pub mod OpenJobs
pub mod JobLists
pub mod KindLemmas
pub mod JobSwapLemmas
