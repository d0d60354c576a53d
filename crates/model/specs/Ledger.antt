-- The ledger: answers and tables of a list of calls, worked out from the calls alone.
use Rattle.std.specs.Prelude.{ℕ, List, [], ◌∷◌, length}
use Rattle.model.specs.Notation.{if◌then◌otherwise◌}
use Rattle.model.specs.Limits.{Edition}
use Rattle.model.specs.Numbers as refusal
use Rattle.model.specs.Bytes.{Bytes}
use Rattle.model.specs.Lines.{named_edition}
use Rattle.model.specs.Table.{table}
use Rattle.model.specs.State.{State, empty}
use Rattle.model.specs.Refusals.{wrong_table}
use Rattle.model.specs.Load
use Rattle.model.specs.Edits
use Rattle.model.specs.Decision.{Decision, refused, decide}

-- "Fed: each call's input (a file, an edit line or a request's block)"
pub data Call : Type 0 where
  load edit request : Bytes → Call

-- "the answer with all it carries (number, line, count, decision, rule)"; an undefined one carries its cause (document 02, E2), an edit's the set joins
-- (E3: "The ledger compares it too")
pub data Answer : Type 0 where
  loaded : (number line : ℕ) → Answer
  edited : (number count joins : ℕ) → Answer
  decided : Decision → Answer

-- what a call answers, and the state it leaves
pub record Step : Type 0 where
  pub answer : Answer
  pub state : State

-- "1: table not 1,024 words, any call. … a load gives the empty book, an edit keeps its own"; "2 has line 0, as has 1"
abbrev pub without_table : State → Call → Step
without_table S (load file) = record { answer = loaded refusal.wrong_table 0; state = empty (named_edition file) }
without_table S (edit line) = record { answer = edited refusal.wrong_table 0 0; state = S }
without_table S (request block) = record { answer = decided (refused refusal.wrong_table); state = S }

-- "A load gives both anew, or the empty D and T when refused"; "a refused edit or a request changes nothing"
abbrev pub with_table : State → Call → Step
with_table S (load file) = let l = Load.load file in record { answer = loaded l.number l.line; state = l.state }
with_table S (edit line) = let e = Edits.edit S line in record { answer = edited e.number e.changed e.joins; state = e.state }
with_table S (request block) = record { answer = decided (decide S block); state = S }

-- the edition whose table a call is tested for. Document 02, E5: "refusal 1 tests the length of the book's edition (a load: of its first line, else
-- 1,024)"
abbrev pub edition_for : State → Call → Edition
edition_for S (load file) = named_edition file
edition_for S (edit line) = S.declared.edition
edition_for S (request block) = S.declared.edition

-- one call, on a table of so many words. "Nothing else comes from book or table": "Refusals and answers are functions of D, T and what is fed"
unfoldable pub step : ℕ → State → Call → Step
step words S c = if wrong_table (edition_for S c) words then without_table S c otherwise with_table S c

-- the table after a call: "all 1,024 words with those that effective on T gives"; "On a table of another length … the table keeps its words".
-- Document 02, E5: "The ledger always compares all words of the table of D's edition"
unfoldable pub table_after : List ℕ → State → List ℕ
table_after words S = if wrong_table S.declared.edition (length words) then words otherwise table S.declared S.ties

-- what stands after a call. Compared are the answer and the words
pub record Outcome : Type 0 where
  pub answer : Answer
  pub words : List ℕ
  pub state : State

-- a call in a state, on a table with these words
abbrev pub outcome : State → List ℕ → Call → Outcome
outcome S words c = let s = step (length words) S c in record { answer = s.answer; words = table_after words s.state; state = s.state }

-- "All its calls use that table, and each edit and request gets the book that the last load or edit gave back"
abbrev pub ledger_from : State → List ℕ → List Call → List Outcome
ledger_from S words [] = []
ledger_from S words (c ∷ calls) = let o = outcome S words c in o ∷ ledger_from o.state o.words calls

-- "The list starts without a book, on a table of any length and content": its first call loads a file, which reads no state
-- and no edition
unfoldable pub ledger : List ℕ → Bytes → List Call → List Outcome
ledger words file calls = ledger_from (empty Edition.first) words (Call.load file ∷ calls)
