-- A text as numbers: words of eight bytes, low byte first.
use Rattle.std.specs.Prelude.{ℕ, zero, suc, ◌+◌, Bool, ◌&&◌, List, [], ◌∷◌, get_or, take, drop, eqb, leb}
use Rattle.model.specs.Bytes.{Bytes}
use Rattle.model.specs.Block.{number}
use Rattle.text.specs.declared.Packed.{Packed}
use Rattle.text.specs.declared.Words.{Words}

abbrev pub word_bytes : ℕ
word_bytes = 8

-- bytes in n words
abbrev pub packed : ℕ → Bytes → List ℕ
packed zero s = []
packed (suc n) s = number (take word_bytes s) ∷ packed n (drop word_bytes s)

-- bytes in two words: the numbers of `packed 2`
abbrev pub packed_of : Bytes → Packed
packed_of s = record { low = number (take word_bytes s); high = number (take word_bytes (drop word_bytes s)) }

-- the two words from a place on are these
unfoldable pub packed_at : List ℕ → ℕ → ℕ → ℕ → Bool
packed_at words at low high = eqb (get_or words at 0) low && eqb (get_or words (at + 1) 0) high

abbrev pub two_words : Packed → List ℕ
two_words p = p.low ∷ p.high ∷ []

-- bytes in three words: the numbers of `packed 3`
abbrev pub three_words : Bytes → Words
three_words s = record {
  first = number (take word_bytes s);
  second = number (take word_bytes (drop word_bytes s));
  third = number (take word_bytes (drop word_bytes (drop word_bytes s)));
}

abbrev pub list_of : Words → List ℕ
list_of w = w.first ∷ w.second ∷ w.third ∷ []

-- a byte that a text may hold: none is 0, so that words tell the text
abbrev pub solid : ℕ → Bool
solid b = leb 1 b && leb b 255
