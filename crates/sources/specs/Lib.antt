pub mod GridFacts
pub mod TableFacts
pub mod TableLoading
pub mod LineFacts
pub mod LineMaking
pub mod Bounds
