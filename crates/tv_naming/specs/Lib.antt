pub mod AtViews
pub mod FaultViews
pub mod Faulty
pub mod Inputs
pub mod Naming
pub mod Numbers
pub mod Told
pub mod graphs
