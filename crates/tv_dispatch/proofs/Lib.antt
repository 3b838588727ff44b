pub mod Turns
pub mod Complaints
pub mod Folded
pub mod Judged
pub mod Examples
