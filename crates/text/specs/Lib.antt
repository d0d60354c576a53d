pub mod Parts
pub mod ReadCodes
pub mod Packing
pub mod Keywords
pub mod Values
pub mod Hex
