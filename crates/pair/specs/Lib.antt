pub mod Pairs
pub mod PairLemmas
