pub mod Meant
pub mod Frames
pub mod Stated
pub mod Once
pub mod Worked
