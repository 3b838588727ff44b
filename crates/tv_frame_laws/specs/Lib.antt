pub mod Beside
pub mod Theirs
pub mod nodes
pub mod values
