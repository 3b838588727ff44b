pub mod Telling
pub mod Known
pub mod Numbers
pub mod Stated
