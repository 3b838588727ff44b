pub mod Parts
pub mod Summaries
pub mod Stated
pub mod Accepted
pub mod Formulas
