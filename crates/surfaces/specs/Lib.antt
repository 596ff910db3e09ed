pub mod Bounds
pub mod Refutations
