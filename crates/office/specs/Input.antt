-- The input by its parts: its first line, its file and its commands.
use Rattle.std.specs.Prelude.{ℕ, ◌+◌, ◌-◌, ◌≤◌, ◌≡◌, Option, MatchOption, [], ◌∷◌, ◌++◌, length, take, drop}
use Rattle.std.specs.Borrow.{Bor}
use Rattle.model.specs.Bytes.{Bytes, lines_of}
use Rattle.model.specs.Gate.{file_of, commands_of}
use Rattle.office.specs.declared.input.Lines.{Lines}
use Rattle.office.specs.declared.input.Input.{Input}

-- n is the length of the first line of s, where s has one
pub record LineLength (s : Bytes) (n : ℕ) : Type 0 where
  pub within : n ≤ length s
  pub some : 1 ≤ length s → 1 ≤ n
  pub lines : 1 ≤ length s → lines_of s ≡ take n s ∷ lines_of (drop n s)

-- the first line of s, and what stands behind it
pub record FirstLine (s line rest : Bytes) : Type 0 where
  pub some : 1 ≤ length line
  pub bytes : s ≡ line ++ rest
  pub lines : lines_of s ≡ line ∷ lines_of rest

-- a step of the iterator: the first line of what is left, or nothing is left
abbrev pub GivesLine : Lines → Option (Bor Bytes) → Lines → Type 0
GivesLine s r t = MatchOption r ((s.rest.now ≡ []) × (t.rest.now ≡ [])) (λ line. FirstLine s.rest.now line.now t.rest.now)

-- the file at the front of an input, and the commands behind it
pub record Split (input : Bytes) (r : Input) : Type 0 where
  pub within : length r.file.now + length r.commands.rest.now ≤ length input
  pub front : r.file.now ≡ take (length r.file.now) input
  pub behind : r.commands.rest.now ≡ drop (length input - length r.commands.rest.now) input
  pub file : file_of (lines_of input) ≡ r.file.now
  pub commands : commands_of (lines_of input) ≡ lines_of r.commands.rest.now
