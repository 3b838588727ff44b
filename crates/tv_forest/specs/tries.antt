pub mod Steps
pub mod NextTries
pub mod Stated
