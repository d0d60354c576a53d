pub mod Operands
pub mod Compared
