pub mod Filtered
pub mod Everywhere
pub mod Tried
pub mod Distinct
pub mod Read
pub mod Few
