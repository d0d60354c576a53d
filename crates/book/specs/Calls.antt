-- What the three calls promise: each gives the ledger's outcome. Assumes nothing: these are definitions.
use Rattle.std.specs.Prelude.{ℕ, ◌≡◌, List}
use Rattle.model.specs.Limits.{Edition}
use Rattle.model.specs.Bytes.{Bytes}
use Rattle.model.specs.State.{State, empty}
use Rattle.model.specs.Decision.{number_and_values}
use Rattle.model.specs.Ledger.{Call, Answer, loaded, edited, decided, table_after, Outcome, outcome}
use Rattle.model.specs.Standing.{Standing}
use Rattle.book.specs.Held.{Holds}

-- the number of an answer
abbrev pub answer_number : Answer → ℕ
answer_number (loaded number line) = number
answer_number (edited number count joins) = number
answer_number (decided d) = (number_and_values d).0

-- the answer of a refused edit: its count is "0 if refused", and of joins it "reports 0"
abbrev pub refused_edit : ℕ → Answer
refused_edit number = edited number 0 0

-- a call's outcome: its answer, the words of the table after it, and a book that holds its state
pub record Gives (o : Outcome) (answer : Answer) (words book : List ℕ) (code : Bytes) : Type 0 where
  pub answered : o.answer ≡ answer
  pub table : o.words ≡ words
  pub holds : Holds book code o.state

-- book and table are those of a standing state that loads and edits leave together; a table of another length goes with every book
pub record Together (S : State) (book : List ℕ) (code : Bytes) (words : List ℕ) : Type 0 where
  pub standing : Standing S
  pub holds : Holds book code S
  pub kept : table_after words S ≡ words

-- "A load gives both anew": whatever book and table were before, and of whatever edition
abbrev pub Loads : Bytes → List ℕ → Answer → List ℕ → List ℕ → Bytes → Type 0
Loads file words a words' book' code' = Gives (outcome (empty Edition.first) words (Call.load file)) a words' book' code'

-- an edit, on a book and a table that go together
abbrev pub Edits : Bytes → List ℕ → List ℕ → Answer → List ℕ → List ℕ → Type 0
Edits line book words a words' book' =
    (S : State) (code : Bytes) → Together S book code words → Gives (outcome S words (Call.edit line)) a words' book' code

-- a request, on a book and a table that go together
abbrev pub AnswersRequest : Bytes → List ℕ → Bytes → List ℕ → Answer → Type 0
AnswersRequest block book code words a = (S : State) → Together S book code words → (outcome S words (Call.request block)).answer ≡ a
