pub mod Fields
pub mod Items
pub mod Trip
pub mod Axes
