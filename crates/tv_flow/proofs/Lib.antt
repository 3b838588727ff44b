pub mod Keys
pub mod KeptValues
pub mod Growing
pub mod Places
pub mod Shapes
pub mod Sorting
pub mod Branches
pub mod FirstOfAll
