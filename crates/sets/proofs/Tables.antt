-- The specification's table is known by the pairs of its holders. Assumes nothing.
use Prim.Native.Nat.{ℕ, zero, suc, ◌+◌, ◌*◌, ◌/◌, ◌%◌, ◌^◌, ◌≤◌, ◌<◌}
use mathlib.Core.Path.{◌≡◌, refl, sym, ap, ap₂, ◌∙◌}
use mathlib.Core.Logic.{⊎_elim}
use mathlib.Core.Bool.{Bool, true, false, true≢false}
use mathlib.Core.List.{List, ◌++◌}
use native.Mathlib.Nat.{eq-or-lt_of_le}
use native.Mathlib.Omega.{arith}
use lib.ListN.{length, get_or, replicate, length-append, get_or-append}
use lib.Seq.{ext_get_or, get_or-append-add}
use Rattle.model.specs.Notation.{each, below}
use Rattle.model.specs.Limits.{holder_numbers, table_words}
use Rattle.model.specs.Declarations.{Declarations, is_holder, holder_numbers_of}
use Rattle.model.specs.Ties.{Ties, value}
use Rattle.model.specs.Effective.{Has, own, inherited}
use Rattle.model.specs.Table.{word, words_of, effective_set, stored_set, table}
use Rattle.model.proofs.Lists.{◌∈◌, true-or-false, nth-lt, each_below}
use Rattle.model.proofs.Effective.{effective-has}
use Rattle.model.specs.Standing.{Standing}
use Rattle.model.proofs.Standing.{among, holder-below}
use Rattle.bits.specs.Bits.{bit, holds}
use Rattle.sets.specs.Filled.{KeepsSets}
use Rattle.bits.proofs.Sets.{member-none}
use Rattle.bits.proofs.WordsOfSets.{length-words, get_d_words, bit_word, word-is, words_are}

-- ---- blocks of four

module _ (F : ℕ → List ℕ) (four : (k : ℕ) → length (F k) ≡ 4) where
  pub length-each : (n : ℕ) → length (each F (below n)) ≡ 4 * n
  length-each zero = refl
  length-each (suc n) = ap length (each_below F n) ∙ length-append (each F (below n)) (F n) ∙ (let a = length-each n in let b = four n in let z : length (each F (below n)) + length (F n) ≡ 4 * suc n = omega arith in z)

  pub getD-each : (n k j : ℕ) → k < n → j < 4 → get_or (each F (below n)) (4 * k + j) 0 ≡ get_or (F k) j 0
  getD-each zero k j h l = absurd (omega arith)
  getD-each (suc n) k j h l =
      ap (λ (s : List ℕ). get_or s (4 * k + j) 0) (each_below F n) ∙ ⊎_elim last (λ m. before m (getD-each n k j m l)) (eq-or-lt_of_le (down k n h))
    where
      down : (k n : ℕ) → k < suc n → k ≤ n
      down k n h = omega arith

      last : k ≡ n → get_or (each F (below n) ++ F n) (4 * k + j) 0 ≡ get_or (F k) j 0
      last e =
          let at : 4 * k + j ≡ length (each F (below n)) + j = omega (arith, length-each n) in
          ap (λ (i : ℕ). get_or (each F (below n) ++ F n) i 0) at ∙ get_or-append-add (each F (below n)) (F n) j 0 ∙ ap (λ (i : ℕ). get_or (F i) j 0) (sym e)

      before : k < n → get_or (each F (below n)) (4 * k + j) 0 ≡ get_or (F k) j 0 → get_or (each F (below n) ++ F n) (4 * k + j) 0 ≡ get_or (F k) j 0
      before m more = get_or-append (each F (below n)) (F n) 0 (4 * k + j) (omega (arith, length-each n)) ∙ more

-- ---- the table of a standing state

pair_lt : (D : Declarations) (T : Ties) → Standing (record { declared = D; ties = T }) → (h p : ℕ) → T (value h p) ≡ true → p < length D.pairs
pair_lt D T standing h p e = nth-lt D.pairs p (standing.ties-fit (value h p) e).pair_is

module _ (D : Declarations) (T : Ties) (standing : Standing (record { declared = D; ties = T })) where
  -- a pair that a holder has is declared, and so is the holder
  has-pair : {p h : ℕ} → Has T p h → p < length D.pairs
  has-pair {p} (own {h = h} e) = pair_lt D T standing h p e
  has-pair (inherited e c) = has-pair c

  pub pair-declared : (k p : ℕ) → effective_set D T k p ≡ true → p < length D.pairs
  unfolding effective_set
  pair-declared k p e = has-pair ((effective-has (holder_numbers_of D) T (among standing) standing.acyclic k p).0 e)

  holder-declared : (k p : ℕ) → effective_set D T k p ≡ true → is_holder D k ≡ true
  unfolding effective_set
  holder-declared k p e = holder-below D k (has-holder ((effective-has (holder_numbers_of D) T (among standing) standing.acyclic k p).0 e))
    where
      has-holder : {p h : ℕ} → Has T p h → h ∈ holder_numbers_of D
      has-holder {p} (own {h = h} e) = (among standing).valued h p e
      has-holder (inherited {g = g} {h = h} e c) = (among standing).lower h g e

  pub no-holder : (k p : ℕ) → is_holder D k ≡ false → effective_set D T k p ≡ false
  no-holder k p h = ⊎_elim (λ e. absurd (true≢false (sym (holder-declared k p e) ∙ h))) (λ e. e) (true-or-false (effective_set D T k p))

  -- unused words are those of the empty set
  pub stored-words : (k : ℕ) → stored_set D T k ≡ words_of (effective_set D T k)
  unfolding stored_set
  stored-words k = go (is_holder D k) refl
    where
      pick : Bool → List ℕ
      pick b = elim b as (λ _. List ℕ) [ true ↦ words_of (effective_set D T k) | false ↦ replicate 4 0 ]

      go : (b : Bool) → is_holder D k ≡ b → pick b ≡ words_of (effective_set D T k)
      go true h = refl
      go false h = words_are (effective_set D T k) (replicate 4 0) refl (λ j. empty j) (λ p l. member-none p l ∙ sym (no-holder k p h))
        where
          empty : (j : ℕ) → get_or (replicate 4 0) j 0 < 2 ^ 64
          empty zero = omega arith
          empty (suc zero) = omega arith
          empty (suc (suc zero)) = omega arith
          empty (suc (suc (suc zero))) = omega arith
          empty (suc (suc (suc (suc j)))) = omega arith

  length-stored : (k : ℕ) → length (stored_set D T k) ≡ 4
  length-stored k = ap length (stored-words k) ∙ length-words (effective_set D T k)

  length-table : length (table D T) ≡ table_words D.edition
  unfolding table
  length-table = length-each (stored_set D T) length-stored (holder_numbers D.edition)

  table-word : (k j : ℕ) → k < holder_numbers D.edition → j < 4 → get_or (table D T) (4 * k + j) 0 ≡ word 64 (λ i. effective_set D T k (64 * j + i))
  unfolding table
  table-word k j h l =
      getD-each (stored_set D T) length-stored (holder_numbers D.edition) k j h l ∙ ap (λ (s : List ℕ). get_or s j 0) (stored-words k) ∙ get_d_words (effective_set D T k) j l

  -- holder k's pairs in it are the effective ones
  holds-table : (k p : ℕ) → k < holder_numbers D.edition → p < 256 → holds (table D T) k p ≡ effective_set D T k p
  unfolding holds
  holds-table k p h l =
      let e : 64 * (p / 64) + p % 64 ≡ p = omega arith in
      ap (λ (w : ℕ). bit w (p % 64)) (table-word k (p / 64) h (omega arith)) ∙ bit_word 64 (λ i. effective_set D T k (64 * (p / 64) + i)) (p % 64) (omega arith)
      ∙ ap (effective_set D T k) e

  -- and a table with those pairs is this one
  table_is : (t : List ℕ) → length t ≡ table_words D.edition → ((j : ℕ) → get_or t j 0 < 2 ^ 64) → ((k p : ℕ) → k < holder_numbers D.edition → p < 256 → holds t k p ≡ effective_set D T k p) → t ≡ table D T
  unfolding holds
  table_is t long fit e =
      ext_get_or 0 t (table D T) (long ∙ sym length-table)
      (λ j l.
      let at : 4 * (j / 4) + j % 4 ≡ j = omega arith in
      word-is (effective_set D T (j / 4)) (get_or t j 0) (j % 4) (fit j)
      (λ i m.
      let d : 4 * (j / 4) + (64 * (j % 4) + i) / 64 ≡ j = omega arith in
      let r : (64 * (j % 4) + i) % 64 ≡ i = omega arith in
      sym (ap₂ (λ (x y : ℕ). bit (get_or t x 0) y) d r) ∙ e (j / 4) (64 * (j % 4) + i) (omega arith) (omega arith))
      ∙ sym (table-word (j / 4) (j % 4) (omega arith) (omega arith)) ∙ ap (λ (i : ℕ). get_or (table D T) i 0) at)

  pub sets-table : (t : List ℕ) → length t ≡ table_words D.edition → ((j : ℕ) → get_or t j 0 < 2 ^ 64) → KeepsSets (holder_numbers D.edition) t D T → t ≡ table D T
  unfolding KeepsSets
  sets-table t long fit e = table_is t long fit e

  pub table-sets : (t : List ℕ) → t ≡ table D T → KeepsSets (holder_numbers D.edition) t D T
  unfolding KeepsSets
  table-sets t e k p h l = ap (λ (x : List ℕ). holds x k p) e ∙ holds-table k p h l
