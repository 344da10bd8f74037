pub mod Faults
pub mod Fields
pub mod Columns
pub mod Tables
pub mod Numbers
pub mod Rows
pub mod Responses
