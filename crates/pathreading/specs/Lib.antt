pub mod Outcomes
pub mod Sections
