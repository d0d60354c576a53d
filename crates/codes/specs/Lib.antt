pub mod Codes
pub mod Enums
