pub mod Forms
pub mod Buses
pub mod Signs
pub mod Division
pub mod PerUnits
