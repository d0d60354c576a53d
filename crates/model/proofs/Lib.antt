-- Theorems about the specification. None of them is needed to read the definitions.

-- Worked cases, by computation.
pub mod Computing
pub mod Cases
pub mod Valley
pub mod CornersOfPolicies
pub mod CornersOfEdits
pub mod CornersOfRequests
pub mod CornersOfCauses
-- Laws of words, partial results and lists.
pub mod WordTables
pub mod Options
pub mod Results
pub mod Lists
pub mod Sums
pub mod Numbered
-- Lines: reading is the inverse of writing.
pub mod Cuts
pub mod Decimals
pub mod Atoms
pub mod Names
pub mod Fields
pub mod Spelling
pub mod Tokens
pub mod Spelled
pub mod Lines
-- Policies: the reader and the grammar.
pub mod Sound
pub mod Complete
pub mod Grammar
pub mod Nesting
pub mod Causes
-- Sets: chains of ties, effective sets, the table.
pub mod Ties
pub mod Chains
pub mod Effective
pub mod Table
pub mod BitsOfWords
pub mod TableLayout
pub mod Changes
-- Requests: the decision and the rules.
pub mod Decision
pub mod PlainDecisions
-- The ledger: what holds of every state.
pub mod Tests
pub mod Growing
pub mod Declared
pub mod Standing
pub mod Ledger
pub mod Joins
pub mod Editions
pub mod Outcomes
pub mod Reached
pub mod Gate
pub mod Fallbacks
pub mod OneType
-- The numbers a caller may meet.
pub mod Refusals
pub mod Accepted
pub mod Loads
pub mod Circles
pub mod Full
-- What a file leaves declared.
pub mod SoFar
-- The writer: what it writes loads back.
pub mod Rereading
pub mod RoundTrip
pub mod RoundTripTies
pub mod WrittenBack
pub mod Writer
-- The length told beforehand: edits move it by their lines.
pub mod Lengths
