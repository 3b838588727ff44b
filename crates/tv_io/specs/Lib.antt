pub mod Rising
pub mod ReadOf
pub mod SentOf
pub mod Kept
pub mod InMemory
pub mod Adapted
