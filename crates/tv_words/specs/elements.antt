pub mod Elements
pub mod Lines
pub mod Stated
pub mod Worked
