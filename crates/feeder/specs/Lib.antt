pub mod Way
pub mod Feeder
pub mod Table
pub mod Laws
pub mod Build
pub mod Sound
pub mod View
