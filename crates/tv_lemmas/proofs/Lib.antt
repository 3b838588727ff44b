pub mod Cases
pub mod Counts
pub mod Lists
pub mod Numbers
pub mod Members
pub mod Options
pub mod Orderings
pub mod Tests
