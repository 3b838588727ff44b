pub mod IdleJobs
pub mod FirstReady
pub mod Stated
pub mod Changes
