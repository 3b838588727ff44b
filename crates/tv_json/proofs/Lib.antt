pub mod Joins
pub mod Printing
mod InOrder
pub mod Back
pub mod Floatless
mod LineFeeds
mod Tidy
mod ReadTidy
mod KeptForms
mod KeptTrees
mod KeptDocuments
pub mod Lines
