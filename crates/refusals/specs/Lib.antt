pub mod Checks
pub mod Texts
