pub mod Codes
pub mod TokenKinds
pub mod Enums
