pub mod Faults
pub mod Surveys
pub mod Prints
pub mod Returns
