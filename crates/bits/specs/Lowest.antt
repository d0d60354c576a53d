-- The lowest number of a word, and of a set from some number on. Assumes nothing: these are definitions.
use Rattle.std.specs.Prelude.{ℕ, ◌*◌, ◌≤◌, ◌<◌, ◌≡◌, true, false, List, length}
use Rattle.model.specs.Limits.{word_bits}
use Rattle.bits.specs.Bits.{bit, member}

-- i is the lowest bit of the word w that is set, or the number of a word's bits where none is
pub record Lowest (w i : ℕ) : Type 0 where
  pub lower : (j : ℕ) → j < i → bit w j ≡ false
  pub held : (w ≡ 0 → ⊥) → (i < word_bits) × (bit w i ≡ true)
  pub none : w ≡ 0 → i ≡ word_bits

-- r is the lowest number of the set s from i on, or the number of the bits of its words where there is none
pub record FirstFrom (s : List ℕ) (i r : ℕ) : Type 0 where
  pub within : r ≤ word_bits * length s
  pub lower : (j : ℕ) → i ≤ j → j < r → member s j ≡ false
  pub held : r < word_bits * length s → (i ≤ r) × (member s r ≡ true)
