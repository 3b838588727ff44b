mod Calls
mod Judged
mod Called
mod Answers
mod Asking
mod TracedLemmas
pub mod Sums
pub mod Regions
pub mod Jobs
pub mod Instances
pub mod Lived
pub mod Room
