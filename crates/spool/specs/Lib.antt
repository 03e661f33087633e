pub mod Masks
pub mod MaskLemmas
pub mod Rows
pub mod Decoding
pub mod Spools
pub mod SpoolLemmas
