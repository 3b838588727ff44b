pub mod Pool
pub mod Lends
pub mod Layout
pub mod Placed
