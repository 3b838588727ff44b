pub mod Stages
pub mod Lists
pub mod Seats
pub mod Entries
pub mod Runs
pub mod Ends
