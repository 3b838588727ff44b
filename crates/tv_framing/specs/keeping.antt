pub mod Told
pub mod NextEvents
pub mod Stated
