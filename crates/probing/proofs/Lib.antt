pub mod Readings
pub mod Voltages
pub mod Probes
pub mod Arrays
pub mod Settings
