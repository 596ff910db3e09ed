pub mod Meaning
pub mod Piles
pub mod Sounds
pub mod Points
pub mod Accuracy
