pub mod Coming
pub mod Fed
pub mod Seen
pub mod Stated
pub mod Worked
