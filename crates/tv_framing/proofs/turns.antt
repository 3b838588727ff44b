pub mod Turns
pub mod Ranks
pub mod Settling
pub mod Frames
pub mod Changes
pub mod Orders
