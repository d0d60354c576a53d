-- The texts of ties.
pub mod TieTexts
-- The text of a book is the file of the state that it holds.
pub mod BookTies
pub mod BookTexts
-- The writer's answer, and the writer over lists of calls.
pub mod Writing
pub mod WritesInRuns
