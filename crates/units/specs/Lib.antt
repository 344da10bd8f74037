pub mod Decimals
pub mod PerUnits
pub mod Quotients
pub mod Views
