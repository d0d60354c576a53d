pub mod TieReading
pub mod TieSteps
