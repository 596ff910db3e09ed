pub mod Meanings
pub mod Draws
pub mod Pointing
pub mod Piling
pub mod Accuracy
