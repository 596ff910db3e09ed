pub mod Writes
pub mod Levels
pub mod Raises
pub mod Offs
pub mod Puts
pub mod Splits
