mod Computed
pub mod Bounds
mod Commands
mod Numbers
mod ReadingLemmas
pub mod Literals
pub mod BracketLemmas
pub mod Cuts
pub mod Indices
pub mod Places
pub mod LawLemmas
pub mod ElementsComputed
