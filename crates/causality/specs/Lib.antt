pub mod LetterLists
pub mod History
pub mod Worlds
pub mod WorldSteps
pub mod Runs
pub mod Theorems
pub mod Sample
