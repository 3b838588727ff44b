pub mod Seated
pub mod GoingOn
