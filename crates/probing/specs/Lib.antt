pub mod Facts
pub mod Answers
pub mod Settings
pub mod Refusals
