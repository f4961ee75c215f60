pub mod Read
pub mod Refused
pub mod Seen
pub mod PageTexts
