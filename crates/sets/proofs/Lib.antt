pub mod LentSets
pub mod Telling
pub mod Laws
pub mod Tables
pub mod Solving
pub mod Refreshing
