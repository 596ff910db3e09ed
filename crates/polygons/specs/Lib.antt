pub mod Buffers
pub mod Constructions
pub mod Flatness
