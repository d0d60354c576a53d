pub mod Texts
pub mod GroupSets
pub mod WriteCalls
