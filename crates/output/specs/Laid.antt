-- Texts laid over a buffer from a place on, each byte behind the one before. What lies behind the buffer's end is dropped: `sets` writes no byte there.
use Rattle.std.specs.Prelude.{ℕ, zero, suc, ◌+◌, ◌/◌, ◌%◌, ◌<◌, ◌≡◌, [], ◌∷◌, length, drop, eqb}
use Rattle.std.proofs.lemmas.List.Edits.{sets}
use Rattle.model.specs.Notation.{if◌then◌otherwise◌}
use Rattle.model.specs.Bytes.{Bytes}
use Rattle.model.specs.Atoms.{decimal}

-- `after` is `before` with a text laid over it, and r is the place behind the text
pub record Laid (before : Bytes) (at : ℕ) (text after : Bytes) (r : ℕ) : Type 0 where
  pub is : after ≡ sets before at text
  pub behind : r ≡ at + length text

-- the furthest place: no number of a place is larger
abbrev pub far : ℕ
far = 18446744073709551615

-- the bytes of a word, low byte first, up to the last that is not 0; n at most
unfoldable pub word_text : ℕ → ℕ → Bytes
word_text zero w = []
word_text (suc n) w = if eqb w 0 then [] otherwise (w % 256 ∷ word_text n (w / 256))

-- the digits of the largest number
abbrev pub most_digits : ℕ
most_digits = 10

-- the digits of n stand at the end of an array, from `start` on
pub record Digits (n : ℕ) (array : Bytes) (start : ℕ) : Type 0 where
  pub long : length array ≡ most_digits
  pub within : start < most_digits
  pub are : drop start array ≡ decimal n
