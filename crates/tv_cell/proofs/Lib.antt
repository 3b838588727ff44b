pub mod PieceLemmas
pub mod Parts
pub mod Sizes
pub mod Compared
pub mod Faults
