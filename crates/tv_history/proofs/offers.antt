pub mod Runs
pub mod Stages
pub mod Changes
pub mod Counts
pub mod Offers
pub mod Ends
