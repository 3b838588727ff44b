pub mod Nodes
pub mod Digits
pub mod Stands
pub mod Calls
