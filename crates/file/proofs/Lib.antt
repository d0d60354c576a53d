pub mod LineReading
pub mod FileLines
pub mod RuleLines
pub mod Files
