pub mod Pages
pub mod Sheets
pub mod Placing
pub mod OrderLemmas
pub mod BesideLemmas
pub mod FilterLemmas
pub mod RowLemmas
