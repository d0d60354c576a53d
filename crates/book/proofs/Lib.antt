-- Laws about the sections of a book, about what is found in them, and about what they hold when a line declares more.
pub mod Sections
pub mod HeldNumbers
pub mod Finding
pub mod Writes
pub mod Kept
pub mod DeclarationTests
pub mod Operations
pub mod AttributeLines
pub mod PairLines
pub mod PairSteps
pub mod Holders
pub mod HolderSteps
pub mod Cleared
