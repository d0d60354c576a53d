-- Hex pairs read into bytes.
use Rattle.std.specs.Prelude.{ℕ, Bool, true, false, Result, Ok, Err, ◌+◌, ◌*◌, ◌≡◌, not, [], ◌∷◌, ◌++◌, length, drop}
use Rattle.std.proofs.Math.Option.{Option, none, some}
use Rattle.model.specs.Notation.{◌>>=◌, is_none}
use Rattle.model.specs.Bytes.{Bytes}
use Rattle.model.specs.Gate.{hex_digit, hex_pairs}
use Rattle.text.specs.declared.NoPair.{NoPair}

-- the byte that a pair of digits writes
abbrev pub hex_pair_of : ℕ → ℕ → Option ℕ
hex_pair_of x y = hex_digit x >>= λ h. hex_digit y >>= λ l. some (16 * h + l)

-- the bytes that the pairs at the front write, up to the first that is none
abbrev pub leading : Bytes → Bytes
leading [] = []
leading (x ∷ []) = []
leading (x ∷ y ∷ rest) = elim (hex_pair_of x y) [ some b ↦ b ∷ leading rest | none ↦ [] ]

-- whether all were pairs, and how many there are, or are in front of what is none
abbrev pub all_pairs : Result ℕ NoPair → Bool
all_pairs (Ok n) = true
all_pairs (Err e) = false

abbrev pub pairs_in : Result ℕ NoPair → ℕ
pairs_in (Ok n) = n
pairs_in (Err e) = e.pairs

-- what is read from s over the bytes `before`: whether all of s are pairs, and how many of them are written at the front
pub record Unhexed (s before after : Bytes) (r : Result ℕ NoPair) : Type 0 where
  pub all : all_pairs r ≡ not (is_none (hex_pairs s))
  pub count : pairs_in r ≡ length (leading s)
  pub bytes : after ≡ leading s ++ drop (length (leading s)) before
