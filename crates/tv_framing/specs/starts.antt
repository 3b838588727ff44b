pub mod Starts
pub mod Numbers
pub mod Stated
pub mod Worked
