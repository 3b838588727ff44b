pub mod Form
pub mod TextLemmas
pub mod Computed
pub mod Accepting
pub mod totals
