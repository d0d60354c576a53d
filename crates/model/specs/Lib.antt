-- The specification, in the order of document 01.

-- Words that the definitions are written with, and the figures of the document.
pub mod Notation
pub mod Limits
-- "The rights file"
pub mod Bytes
pub mod Keys
pub mod Attributes
pub mod Declarations
pub mod Names
pub mod Atoms
pub mod Lines
pub mod State
-- a load; what it is refused for stands in Refusals, as what an edit and a request are refused for
pub mod Load
-- "Sets"
pub mod Ties
pub mod Effective
pub mod Table
-- "Edits"
pub mod Edits
-- "Policies"
pub mod Tokens
pub mod Grammar
pub mod Comparison
pub mod Truth
pub mod Meaning
-- Document 02, E2: "Two sorts of undefined"
pub mod Causes
-- "The pass block"
pub mod Block
pub mod Session
pub mod Decision
-- "The ledger"
pub mod Ledger
-- "Numbers a caller may meet"
pub mod Numbers
pub mod Refusals
-- What holds of every state in a ledger
pub mod Standing
-- "For C builds"
pub mod Host
-- "Office program"
pub mod Gate
-- "Valley cases"
pub mod Valley
-- Document 02, E1: "The file as it stands now", and E14: "Length told beforehand"
pub mod FileText
-- Document 02, E4: "K3 without its table"
pub mod Formulas
