pub mod Lists
pub mod Quotients
pub mod Sound
pub mod Stepping
pub mod Rising
pub mod Law
pub mod Certain
