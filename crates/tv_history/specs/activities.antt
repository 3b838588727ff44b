pub mod Agreed
pub mod Activities
pub mod Stated
