pub mod Laying
pub mod PackedWords
pub mod WordWidth
pub mod EightBytes
pub mod Digits
