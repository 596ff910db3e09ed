pub mod Says
pub mod Opens
pub mod Means
