pub mod Parts
pub mod Digits
pub mod Numbers
pub mod MapTexts
pub mod RefusalTexts
