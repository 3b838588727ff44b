pub mod Joined
pub mod Documents
pub mod DocumentLines
