-- Commands answered: what is printed for them, and what they leave.
use Rattle.std.specs.Prelude.{ℕ, ◌+◌, ◌*◌, ◌≤◌, ◌≡◌, List, ◌∷◌, ◌++◌, length}
use Rattle.std.proofs.Math.Option.{Option}
use Rattle.model.specs.Notation.{map}
use Rattle.model.specs.Limits.{Edition, table_words}
use Rattle.model.specs.Bytes.{Bytes, lines_of}
use Rattle.model.specs.State.{State}
use Rattle.model.specs.Ledger.{Call, Answer, decided}
use Rattle.model.specs.Gate.{call_of, printed, output}
use Rattle.output.specs.Laid.{Laid}
use Rattle.book.specs.Calls.{Together}
use Rattle.edit.specs.EditSteps.{EditCall}
use Rattle.request.specs.declared.Decision.{Decision}
use Rattle.request.specs.Decisions.{decision_of, Decides}
use Rattle.engine.specs.Runs.{Memory}
use Rattle.office.specs.declared.answer.Memory as office
use Rattle.printing.specs.Printing.{answer_bytes, PrintedAt}

abbrev pub memory : List ℕ → Bytes → List ℕ → Memory
memory book code words = record { book = book; code = code; words = words }

-- what the office lends to its calls
abbrev pub lent : office.Memory → Memory
lent m = memory m.book.now m.rules.now m.table.now

-- what is lent is the same memory as before, so that what stands in it is the lender's; the rules are not written
abbrev pub SameReferences : office.Memory → office.Memory → Type 0
SameReferences before after =
    (after.book.ghost_name ≡ before.book.ghost_name) × (after.table.ghost_name ≡ before.table.ghost_name) × (after.rules ≡ before.rules)

-- how many words the table has that is lent: those of the first edition
abbrev pub lent_words : ℕ
lent_words = table_words Edition.first

-- book and table go together with a state
abbrev pub MemoryOf : State → Memory → Type 0
MemoryOf S l = Together S l.book l.code l.words

-- from the state S on, `text` is printed for the commands, up to `rest`; what is left then goes together with a state that prints the rest
pub record Prints (S : State) (commands : List (Option Call)) (text : Bytes) (rest : List (Option Call)) (after : Memory) : Type 0 where
  pub state : State
  pub stands : MemoryOf state after
  pub prints : output lent_words S commands ≡ text ++ output lent_words state rest

-- an edit made, and its answer
pub record EditAnswered (line : Bytes) (book words book' words' : List ℕ) (out : Bytes) (at : ℕ) (out' : Bytes) (r : ℕ) : Type 0 where
  pub answer : Answer
  pub table-long : length words ≡ lent_words
  pub call : EditCall line book words answer words' book'
  pub prints : PrintedAt out at (printed answer) out' r

-- a request decided, and its answer
pub record RequestAnswered (block : Bytes) (l : Memory) (out : Bytes) (at : ℕ) (out' : Bytes) (r : ℕ) : Type 0 where
  pub decision : Decision
  pub table-long : length l.words ≡ lent_words
  pub call : Decides block l.book l.code l.words decision
  pub prints : PrintedAt out at (printed (decided (decision_of decision))) out' r

-- one command answered
pub record CommandAnswered (line : Bytes) (before after : Memory) (out : Bytes) (at : ℕ) (out' : Bytes) (r : ℕ) : Type 0 where
  pub text : Bytes
  pub answer : PrintedAt out at text out' r
  pub same : after.code ≡ before.code
  pub goes_on : (S : State) (rest : List (Option Call)) → MemoryOf S before → Prints S (call_of line ∷ rest) text rest after

-- the commands up to those that are left answered
pub record Answered (commands rest : Bytes) (before after : Memory) (out : Bytes) (at : ℕ) (out' : Bytes) (r : ℕ) : Type 0 where
  pub text : Bytes
  pub laid : Laid out at text out' r
  pub short : length text + answer_bytes * length rest ≤ answer_bytes * length commands
  pub same : after.code ≡ before.code
  pub goes_on : (S : State) → MemoryOf S before → Prints S (map call_of (lines_of commands)) text (map call_of (lines_of rest)) after
