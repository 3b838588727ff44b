pub mod Free
pub mod Graphs
pub mod Gathered
pub mod Laws
pub mod Leaving
pub mod Untaken
pub mod Waiting
pub mod Walk
