pub mod Puts
pub mod Items
pub mod Stepping
pub mod Files
