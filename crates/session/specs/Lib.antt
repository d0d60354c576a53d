pub mod Opened
pub mod Entries
pub mod Words
