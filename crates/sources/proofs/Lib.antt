pub mod Entries
pub mod Hearing
pub mod Making
pub mod Remaking
pub mod Working
