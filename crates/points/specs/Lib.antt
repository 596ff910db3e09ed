pub mod Refusals
pub mod Weights
pub mod Parameters
pub mod Points
