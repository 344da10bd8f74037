pub mod Refusals
pub mod Columns
pub mod Relations
pub mod Drawings
pub mod History
pub mod Law
pub mod Probes
