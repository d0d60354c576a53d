-- Laws about edits.
pub mod Exits
pub mod EditLines
pub mod LentTies
pub mod EditTables
pub mod EditRefusals
pub mod EditedSets
pub mod EditCalls
