pub mod TokenReading
pub mod PageTexts
