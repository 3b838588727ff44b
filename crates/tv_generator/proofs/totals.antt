-- The totals of generated documents' runs.
pub mod Tallies
pub mod Walked
pub mod Found
pub mod Crossing
pub mod Pairs
pub mod Jobs
pub mod Comes
pub mod Steps
pub mod Sums
pub mod Counted
