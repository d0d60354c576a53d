pub mod Starts
pub mod Readers
pub mod Judgements
pub mod Scans
