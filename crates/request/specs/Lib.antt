pub mod Requests
pub mod Decisions
