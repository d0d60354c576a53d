pub mod ChainWalks
pub mod Relinking
pub mod IndexParts
pub mod Listed
