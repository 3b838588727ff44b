pub mod Finding
pub mod Feeding
pub mod Wraps
pub mod SourceLemmas
pub mod Binding
pub mod Comparing
