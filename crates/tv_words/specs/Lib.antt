pub mod Numbers
pub mod Reading
pub mod Commands
pub mod CommandViews
pub mod Stated
pub mod Worked
pub mod elements
