pub mod Workings
pub mod Surveys
pub mod Charges
