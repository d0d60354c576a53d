-- What the writer and the length told beforehand promise: on any words, and for the state that a book holds.
use Rattle.std.specs.Prelude.{ℕ, Result, Ok, Err, ◌≡◌, List, length}
use Rattle.model.specs.Bytes.{Bytes}
use Rattle.model.specs.State.{State}
use Rattle.model.specs.Standing.{Standing}
use Rattle.model.specs.FileText.{FileWritten, write_text, write_file, written_length}
use Rattle.codes.specs.declared.Refusal.{Refusal}
use Rattle.book.specs.Held.{Holds}
use Rattle.writer.specs.Texts.{book_text}

-- the length of what is written, 0 where it is refused
abbrev pub length_in : Result ℕ Refusal → ℕ
length_in (Ok n) = n
length_in (Err r) = 0

-- the answer, and the buffer behind it
abbrev pub written : ℕ → ℕ → Bytes → FileWritten
written number long buffer = record { number = number; text_length = long; buffer = buffer }

-- the book and the rules as they are lent, the buffer before the call, the answer, and the buffer behind it
pub record WriteCall (book : List ℕ) (rules before : Bytes) (number long : ℕ) (after : Bytes) : Type 0 where
  -- whatever stands in the book and the rules, their text is written, or refused
  pub any : written number long after ≡ write_text (book_text book rules) before
  -- a book that holds a state is written as the file of that state
  pub exact : (S : State) → Standing S → Holds book rules S → written number long after ≡ write_file S before

-- the book and the rules as they are lent, and the length that is told
pub record LengthCall (book : List ℕ) (rules : Bytes) (told : ℕ) : Type 0 where
  -- whatever stands in the book and the rules, it is that of their text
  pub any : told ≡ length (book_text book rules)
  -- for a book that holds a state, that of the file of the state
  pub exact : (S : State) → Standing S → Holds book rules S → told ≡ written_length S
