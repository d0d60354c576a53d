-- Laws about the lines of an input, about commands, and about answers printed one behind the other.
pub mod InputLines
pub mod Commands
pub mod Answering
pub mod Answers
pub mod Whole
