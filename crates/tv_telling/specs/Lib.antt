pub mod ValueTellings
pub mod WayTellings
pub mod Views
pub mod Openings
pub mod Along
pub mod endings
