pub mod Putting
pub mod Meaning
pub mod Appending
pub mod RestingLemmas
pub mod Serving
pub mod Places
pub mod Lines
pub mod LineLemmas
