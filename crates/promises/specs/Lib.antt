pub mod Accuracy
pub mod Bites
pub mod Values
