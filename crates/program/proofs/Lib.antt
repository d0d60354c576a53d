pub mod Marks
pub mod Levels
pub mod RowValues
pub mod Runs
pub mod Walked
pub mod Programs
