pub mod Partials
pub mod Below
pub mod Changes
pub mod Stated
pub mod Worked
