pub mod AlongWires
pub mod EndedSteps
pub mod TurningTrees
pub mod WiredFlows
