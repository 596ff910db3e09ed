pub mod Opened
pub mod Filed
pub mod Sounds
