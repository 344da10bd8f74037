pub mod Texts
pub mod MapTexts
pub mod RefusalTexts
