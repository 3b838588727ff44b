pub mod Entries
pub mod Elsewhere
pub mod Settled
pub mod Starts
pub mod Untold
pub mod Opened
