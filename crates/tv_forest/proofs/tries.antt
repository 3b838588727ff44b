pub mod Made
pub mod Jobs
pub mod Turns
pub mod Tries
pub mod Next
pub mod Parts
pub mod Flows
