pub mod Offers
pub mod Ends
pub mod Stages
pub mod Changes
