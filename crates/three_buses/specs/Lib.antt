pub mod Buses
pub mod Logs
pub mod Meaning
