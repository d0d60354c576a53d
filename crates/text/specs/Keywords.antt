-- Words of the format in tables, each packed in a word. A word is told by its place; place 0 is that of none.
use Rattle.std.specs.Prelude.{ℕ, Option, Some, None, IfSome, ◌+◌, ◌≤◌, ◌<◌, ◌≡◌, Bool, true, ◌&&◌, List, [], ◌∷◌, length, leb}
use Rattle.model.specs.Notation.{if◌then◌otherwise◌, all_of, map}
use Rattle.model.specs.Bytes.{Bytes, same}
use Rattle.model.specs.Block.{number}
use Rattle.text.specs.Packing.{word_bytes, solid}

-- a word that a table can have: its bytes fit one word and none is 0, so that the word tells them
abbrev pub is_keyword : Bytes → Bool
is_keyword w = leb 1 (length w) && leb (length w) word_bytes && all_of solid w

-- the place of the first element that passes, where places are counted from k
abbrev pub place_from : {A : Type 0} → ℕ → (A → Bool) → List A → Option ℕ
place_from k p [] = None
place_from k p (a ∷ rest) = if p a then Some k otherwise place_from (k + 1) p rest

-- r is the place of s in a table of words, whatever words these are; place 0 is that of none
pub record Keyword (table : List ℕ) (s : Bytes) (r : Option ℕ) : Type 0 where
  pub within : IfSome r (λ i. (1 ≤ i) × (i < length table))
  pub place : (words : List Bytes) → all_of is_keyword words ≡ true → table ≡ 0 ∷ map number words → r ≡ place_from 1 (λ w. same w s) words
