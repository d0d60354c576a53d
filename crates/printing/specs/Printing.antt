-- Answers in an output, and the forms of printed lines.
use Rattle.std.specs.Prelude.{ℕ, ◌≤◌, ◌++◌, length}
use Rattle.model.specs.Bytes.{Bytes, bytes}
use Rattle.model.specs.Atoms.{decimal}
use Rattle.output.specs.Laid.{Laid}

-- no answer is longer
abbrev pub answer_bytes : ℕ
answer_bytes = 40

-- an answer's text is laid at a place of the output
pub record PrintedAt (before : Bytes) (at : ℕ) (text after : Bytes) (r : ℕ) : Type 0 where
  pub laid : Laid before at text after r
  pub short : length text ≤ answer_bytes

-- a key with two numbers, and a line of a text with one
abbrev pub numbers_behind : Bytes → ℕ → ℕ → Bytes
numbers_behind key number other = key ++ decimal number ++ bytes "," ++ decimal other

abbrev pub number_line : Bytes → ℕ → Bytes
number_line text n = text ++ decimal n ++ bytes "\n"
