pub mod TieSorts
pub mod TieSections
pub mod TieFitting
pub mod TieEditing
pub mod TieNaming
pub mod TieLines
pub mod TieFields
pub mod TieRefusals
