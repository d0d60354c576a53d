pub mod LineSteps
pub mod LoadAnswers
