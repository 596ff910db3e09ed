pub mod Laying
pub mod Cuts
pub mod Plain
pub mod Stands
