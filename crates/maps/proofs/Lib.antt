pub mod Names
pub mod Headers
pub mod Records
pub mod Files
pub mod Outcomes
pub mod Trees
pub mod Trips
