pub mod SortingLemmas
pub mod IntakeLemmas
