pub mod Numbers
pub mod Complaints
pub mod Splits
pub mod Texts
pub mod Lists
pub mod Examples
pub mod Single
pub mod Beginnings
