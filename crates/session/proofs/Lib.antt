pub mod Words
pub mod HeldValues
pub mod Entries
pub mod NamedOperands
pub mod Opens
pub mod Activated
