pub mod Results
pub mod Trees
pub mod Housed
pub mod Sizes
pub mod ByStep
pub mod Covering
pub mod Room
