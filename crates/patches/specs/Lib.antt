pub mod Nets
pub mod Sounds
pub mod Surfaces
