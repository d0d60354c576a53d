pub mod TieArrays
pub mod TieEdits
pub mod TieJoins
