pub mod Sorting
pub mod Intaken
