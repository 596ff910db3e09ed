pub mod Rounding
pub mod Mixes
pub mod Equal
