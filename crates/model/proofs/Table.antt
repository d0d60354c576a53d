-- The table of a state has the words of its edition, and that of an empty state is all 0. Assumes nothing.
use Prim.Native.Nat.{ℕ, suc, ◌+◌, ◌*◌}
use mathlib.Core.Path.{◌≡◌, refl, ap, ◌∙◌}
use mathlib.Core.Bool.{Bool, true, false}
use mathlib.Core.List.{List, [], ◌∷◌}
use native.Mathlib.Omega.{arith}
use native.Mathlib.Nat.{mul-suc}
use lib.ListN.{length, length-append, replicate}
use Rattle.model.specs.Notation.{each, below}
use Rattle.model.specs.Limits.{Edition, table_words, set_words, holder_numbers}
use Rattle.model.specs.Declarations.{Declarations, nothing_declared, is_holder}
use Rattle.model.specs.Ties.{Ties, no_ties}
use Rattle.model.specs.Table.{words_of, effective_set, stored_set, table}
use Rattle.model.proofs.Computing.{computing}
use Rattle.model.proofs.Lists.{length-below}

pub set-length : (D : Declarations) (T : Ties) (k : ℕ) → length (stored_set D T k) ≡ set_words
unfolding stored_set words_of
set-length D T k = go (is_holder D k)
  where
    go : (b : Bool) → length {A = ℕ} (elim b as (λ _. List ℕ) [ true ↦ words_of (effective_set D T k) | false ↦ replicate set_words 0 ]) ≡ set_words
    go true = refl
    go false = refl

-- lists of one length, one after another
each-length : {A B : Type 0} (f : A → List B) (n : ℕ) (xs : List A) → ((x : A) → length (f x) ≡ n) → length (each f xs) ≡ n * length xs
each-length f n [] e = omega arith
each-length f n (x ∷ xs) e = length-append (f x) (each f xs) ∙ more (length (f x)) (length (each f xs)) (length xs) (e x) (each-length f n xs e)
  where
    more : (a b k : ℕ) → a ≡ n → b ≡ n * k → a + b ≡ n * suc k
    more a b k p q = omega (arith, mul-suc n k)

-- "The lent table has exactly 1,024 words", that of the second edition 4,096
pub table-length : (D : Declarations) (T : Ties) → length (table D T) ≡ table_words D.edition
unfolding table
table-length D T = each-length (stored_set D T) set_words (below (holder_numbers D.edition)) (set-length D T) ∙ ap (λ (n : ℕ). set_words * n) (length-below (holder_numbers D.edition))

-- "Book empty, table all 0"
pub empty-table : (e : Edition) → table (nothing_declared e) no_ties ≡ replicate (table_words e) 0
unfolding computing
empty-table Edition.first = refl
empty-table Edition.second = refl
