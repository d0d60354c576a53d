-- Laws about requests.
pub mod Blocks
pub mod EntryTests
pub mod BlockNumbers
pub mod RuleValues
pub mod Books
pub mod RequestAnswers
