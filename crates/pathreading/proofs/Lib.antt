pub mod Many
pub mod Sections
