pub mod Regions
pub mod Frames
pub mod Theirs
pub mod nodes
pub mod Holding
pub mod Feeds
pub mod Shown
pub mod Exact
