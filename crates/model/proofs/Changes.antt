-- An edit's count: it is the number of holders whose four words in the table before and in the table after are not the same. Assumes nothing.
use Prim.Native.Nat.{ℕ, ◌≤◌, ◌<◌}
use mathlib.Core.Path.{◌≡◌, refl, sym, ap, ◌∙◌}
use mathlib.Core.Logic.{◌⊎◌, inl, inr, ⊎_elim}
use mathlib.Core.Bool.{Bool, true, false, not, beq}
use mathlib.Core.List.{List}
use native.Mathlib.Decide.{dec_lt}
use native.Mathlib.Omega.{arith}
use lib.ListN.{length, replicate}
use Rattle.model.specs.Notation.{count_of, below, map}
use Rattle.model.specs.Limits.{holder_numbers, pair_limit, set_words}
use Rattle.model.specs.Bytes.{same}
use Rattle.model.specs.Declarations.{Declarations, Holder, is_holder, holder_numbers_of}
use Rattle.model.specs.Ties.{Ties}
use Rattle.model.specs.Table.{words_of, effective_set, stored_set, table}
use Rattle.model.specs.Edits.{differs, changes}
use Rattle.model.proofs.WordTables.{false-is-true, same-eq, same_refl}
use Rattle.model.proofs.Lists.{true-or-false, same_truth, any-in, in-any, ◌∈◌, in-below, below_in, count-ext}
use Rattle.model.proofs.Numbered.{count-numbers}
use Rattle.model.specs.Standing.{Standing}
use Rattle.model.proofs.Standing as laws
use Rattle.model.proofs.TableLayout.{set_in, words_same, words-told, set-in-table, pair-declared}

-- "holders whose stored set changed": holder k's four words are not the same in two tables
unfoldable pub set_changed : List ℕ → List ℕ → ℕ → Bool
set_changed before after k = not (same (set_in before k) (set_in after k))

-- two tests that differ
beq-refl : (a : Bool) → not (beq a a) ≡ false
beq-refl true = refl
beq-refl false = refl

beq_same : (a b : Bool) → not (beq a b) ≡ false → a ≡ b
beq_same true true e = refl
beq_same true false e = false-is-true (sym e)
beq_same false true e = false-is-true (sym e)
beq_same false false e = refl

differ-not : (s t : List ℕ) → s ≡ t → not (same s t) ≡ false
differ-not s t e = ap (λ (u : List ℕ). not (same s u)) (sym e) ∙ ap not (same_refl s)

module _ (D : Declarations) (T U : Ties) (before : Standing (record { declared = D; ties = T })) (after : Standing (record { declared = D; ties = U })) where
  pairs-fit : length D.pairs ≤ pair_limit
  pairs-fit = laws.pairs-fit before

  -- a pair that is not declared is nobody's
  undeclared : (k p : ℕ) → length D.pairs ≤ p → effective_set D T k p ≡ effective_set D U k p
  undeclared k p h =
      same_truth (effective_set D T k p) (effective_set D U k p)
      (λ e. absurd (omega (arith, pair-declared before k p e, h))) (λ e. absurd (omega (arith, pair-declared after k p e, h)))

  -- sets that do not differ have the same words
  same-words : (k : ℕ) → differs D T U k ≡ false → words_of (effective_set D T k) ≡ words_of (effective_set D U k)
  unfolding differs
  same-words k e = words_same (effective_set D T k) (effective_set D U k) (λ p l. go p (dec_lt p (length D.pairs)))
    where
      go : (p : ℕ) → Dec (p < length D.pairs) → effective_set D T k p ≡ effective_set D U k p
      go p (yes h) =
          ⊎_elim
          (λ on. false-is-true (sym e ∙ in-any (λ p. not (beq (effective_set D T k p) (effective_set D U k p))) (below_in (length D.pairs) p h) on))
          (beq_same (effective_set D T k p) (effective_set D U k p)) (true-or-false (not (beq (effective_set D T k p) (effective_set D U k p))))
      go p (no h) = undeclared k p (omega arith)

  -- and sets with the same words do not
  differs-not : (k : ℕ) → words_of (effective_set D T k) ≡ words_of (effective_set D U k) → differs D T U k ≡ true → ⊥
  unfolding differs
  differs-not k e d =
      let r = any-in (λ p. not (beq (effective_set D T k p) (effective_set D U k p))) (below (length D.pairs)) d in
      let l = in-below (length D.pairs) r.1 in
      let q = words-told (effective_set D T k) (effective_set D U k) e r.0 (omega (arith, l, pairs-fit)) in
      false-is-true (sym (ap (λ (b : Bool). not (beq b (effective_set D U k r.0))) q ∙ beq-refl (effective_set D U k r.0)) ∙ r.2)

  -- the four words of a holder, and those of a number that is none
  holder-words : (W : Ties) (k : ℕ) → is_holder D k ≡ true → stored_set D W k ≡ words_of (effective_set D W k)
  unfolding stored_set
  holder-words W k h = rw h

  other-words : (W : Ties) (k : ℕ) → is_holder D k ≡ false → stored_set D W k ≡ replicate set_words 0
  unfolding stored_set
  other-words W k h = rw h

  changed-holder : (k : ℕ) → is_holder D k ≡ true → differs D T U k ≡ set_changed (table D T) (table D U) k
  unfolding set_changed
  changed-holder k h =
      same_truth (differs D T U k) (not (same (set_in (table D T) k) (set_in (table D U) k)))
      (λ d.
      ⊎_elim (λ e. absurd (differs-not k (sym (words T) ∙ same-eq (set_in (table D T) k) (set_in (table D U) k) e ∙ words U) d)) (ap not)
      (true-or-false (same (set_in (table D T) k) (set_in (table D U) k))))
      (λ c.
      ⊎_elim (λ d. d)
      (λ d. false-is-true (sym (differ-not (set_in (table D T) k) (set_in (table D U) k) (words T ∙ same-words k d ∙ sym (words U))) ∙ c))
      (true-or-false (differs D T U k)))
    where
      words : (W : Ties) → set_in (table D W) k ≡ words_of (effective_set D W k)
      words W = set-in-table D W k (laws.holder-fits before k h) ∙ holder-words W k h

  changed-other : (k : ℕ) → is_holder D k ≡ false → k < holder_numbers D.edition → set_changed (table D T) (table D U) k ≡ false
  unfolding set_changed
  changed-other k h l =
      differ-not (set_in (table D T) k) (set_in (table D U) k)
      (set-in-table D T k l ∙ other-words T k h ∙ sym (other-words U k h) ∙ sym (set-in-table D U k l))

  -- "the number of holders whose stored set changed"
  pub changes-exact : changes D T U ≡ count_of (set_changed (table D T) (table D U)) (below (holder_numbers D.edition))
  unfolding changes holder_numbers_of
  changes-exact =
      count-ext (differs D T U) (set_changed (table D T) (table D U)) (holder_numbers_of D) (λ k m. changed-holder k (laws.holder-below D k m))
      ∙ count-numbers (λ h. h.number) (set_changed (table D T) (table D U)) D.holders (holder_numbers D.edition) before.declarations.holders.ordered
      (λ k m. laws.holder-fits before k (laws.holder-below D k m))
      (λ k l out. changed-other k (absent k out (true-or-false (is_holder D k))) l)
    where
      absent : (k : ℕ) → (k ∈ map (λ (h : Holder). h.number) D.holders → ⊥) → (is_holder D k ≡ true) ⊎ (is_holder D k ≡ false) → is_holder D k ≡ false
      absent k out (inl e) = absurd (out (laws.holder_in D k e))
      absent k out (inr e) = e
