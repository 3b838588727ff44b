pub mod Changes
pub mod Wholeness
pub mod Known
