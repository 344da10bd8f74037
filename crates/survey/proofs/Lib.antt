pub mod Probing
pub mod Ending
pub mod CameBack
pub mod OneText
