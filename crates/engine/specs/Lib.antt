pub mod LoadSteps
pub mod Runs
