pub mod Bits
pub mod Sets
pub mod Counts
pub mod WordsOfSets
pub mod Walks
