pub mod Walks
pub mod TermRows
pub mod Runs
