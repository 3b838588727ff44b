pub mod Bytes
pub mod Plainly
pub mod Given
pub mod Requests
mod Computed
pub mod Questions
pub mod Traced
mod Leaving
mod Completed
mod Formats
mod Upgrading
mod Finishing
mod Elements
mod Loops
