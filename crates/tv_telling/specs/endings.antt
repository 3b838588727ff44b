pub mod Ends
pub mod Counting
pub mod Stated
pub mod Turns
pub mod Feeds
pub mod FeedLaws
