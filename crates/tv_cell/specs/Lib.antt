pub mod Found
pub mod PieceValues
pub mod Soundness
pub mod Sameness
pub mod formers
