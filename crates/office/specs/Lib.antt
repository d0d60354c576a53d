pub mod Input
pub mod Command
pub mod Answers
