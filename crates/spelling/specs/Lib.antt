pub mod LineTexts
pub mod Lines
