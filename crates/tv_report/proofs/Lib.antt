pub mod Plain
pub mod Growing
pub mod Tokens
pub mod Plans
pub mod Tallied
pub mod AskCounts
pub mod NamedLines
