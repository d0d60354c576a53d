pub mod LoopPlaces
pub mod DecimalDigits
pub mod Quotes
pub mod Packing
pub mod Keywords
pub mod Values
pub mod HexPairs
pub mod Told
