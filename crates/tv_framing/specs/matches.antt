pub mod Steps
pub mod Items
pub mod Jobs
pub mod Waiting
pub mod Stated
pub mod Worked
