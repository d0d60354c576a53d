pub mod Leaves
pub mod RowBytes
pub mod Compiling
