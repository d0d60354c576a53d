-- Parts of bytes: where a byte stands first, and what stands inside quotes.
use Rattle.std.specs.Prelude.{ℕ, Option, Some, None, ◌+◌, ◌-◌, ◌≤◌, ◌<◌, ◌≡◌, Bool, true, false, length, take, drop}
use Rattle.std.proofs.Math.Option.{none, some}
use Rattle.model.specs.Bytes.{Bytes, cut}
use Rattle.model.specs.Atoms.{read_str}

-- r is the place where b stands first
pub record FirstAt (b : ℕ) (s : Bytes) (r : Option ℕ) : Type 0 where
  pub found : (i : ℕ) → r ≡ Some i → (i < length s) × (cut b s ≡ some (take i s, drop (i + 1) s))
  pub absent : r ≡ None → cut b s ≡ none

-- what stands between the first byte and the last
abbrev pub inside : Bytes → Bytes
inside s = take (length s - 1 - 1) (drop 1 s)

-- r tells whether s is a str, whose text then stands inside
pub record Quoted (s : Bytes) (r : Bool) : Type 0 where
  pub long : r ≡ true → 2 ≤ length s
  pub text : r ≡ true → read_str s ≡ some (inside s)
  pub other : r ≡ false → read_str s ≡ none
