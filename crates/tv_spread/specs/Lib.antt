pub mod Runs
pub mod Wholes
pub mod Arounds
pub mod Spreads
pub mod Stated
