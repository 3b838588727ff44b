pub mod Follows
pub mod Elsewhere
pub mod Opened
pub mod Stated
