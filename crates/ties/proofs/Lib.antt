pub mod Masks
pub mod Keeps
pub mod Climbing
pub mod Widening
pub mod Below
pub mod Joining
pub mod Editing
