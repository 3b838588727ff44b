pub mod Known
pub mod Kept
pub mod Changes
pub mod FoundIn
pub mod Seen
pub mod PartValues
pub mod Stated
pub mod Worked
