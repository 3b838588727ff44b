pub mod InRun
pub mod Stated
