pub mod Seats
pub mod Stated
pub mod Offers
pub mod States
