pub mod Settled
pub mod Filled
pub mod Refreshed
