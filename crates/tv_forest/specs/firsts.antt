pub mod FirstWithin
pub mod Opening
pub mod Told
