pub mod OwnResults
pub mod InHistory
pub mod OwnNodes
pub mod Stated
