-- The lent table: every holder's effective set in 64-bit words.
use Rattle.std.specs.Prelude.{ℕ, zero, suc, ◌+◌, ◌*◌, ◌^◌, Bool, List, replicate, take, drop}
use Rattle.model.specs.Notation.{if◌then◌otherwise◌, map, each, below}
use Rattle.model.specs.Limits.{holder_numbers, word_bits, set_words}
use Rattle.model.specs.Declarations.{Declarations, is_holder, holder_numbers_of}
use Rattle.model.specs.Ties.{Ties}
use Rattle.model.specs.Effective.{effective}

-- the number whose bit i, 0 lowest, tells whether i passes, for i below n
abbrev pub word : ℕ → (ℕ → Bool) → ℕ
word zero f = 0
word (suc n) f = word n f + (if f n then 2 ^ n otherwise 0)

-- "pair p is bit p modulo 64 (0 lowest) of word p/64 of these"
unfoldable pub words_of : (ℕ → Bool) → List ℕ
words_of set = map (λ w. word word_bits (λ i. set (word_bits * w + i))) (below set_words)

-- effective(k) on T, among the holders of D
unfoldable pub effective_set : Declarations → Ties → ℕ → ℕ → Bool
effective_set D T k p = effective (holder_numbers_of D) T k p

-- "Holder k's stored set is the four words from word 4k", "equal to effective(k). Unused words are 0"
unfoldable pub stored_set : Declarations → Ties → ℕ → List ℕ
stored_set D T k = if is_holder D k then words_of (effective_set D T k) otherwise replicate set_words 0

-- "The lent table has exactly 1,024 words of 64 bits"; in the second edition it has 4,096
unfoldable pub table : Declarations → Ties → List ℕ
table D T = each (stored_set D T) (below (holder_numbers D.edition))

-- "Holder k's stored set is the four words from word 4k": these words of a table
abbrev pub set_in : List ℕ → ℕ → List ℕ
set_in words k = take set_words (drop (set_words * k) words)
