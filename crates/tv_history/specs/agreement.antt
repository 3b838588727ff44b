pub mod InstanceFlows
pub mod PlannedDepths
pub mod Stated
pub mod Rows
