-- The joins that the arrays tell are those of the ties that they keep: a holder's mask has as many bits as it has ties up, since slots are distinct, and
-- the holders under e are e and those below it. Assumes nothing.
use Prim.Native.Nat.{ℕ, ◌+◌, ◌*◌, ◌≤◌, ◌<◌}
use mathlib.Core.Path.{◌≡◌, refl, sym, ap, ap₂, subst, ◌∙◌}
use mathlib.Core.Logic.{◌⊎◌, inl, inr, ⊎_elim}
use mathlib.Core.Bool.{Bool, true, false, ◌&&◌, ◌||◌, true≢false}
use mathlib.Core.List.{List}
use native.Mathlib.Numerals.{add-one}
use native.Mathlib.Omega.{arith}
use lib.Dec.{eqb}
use lib.ListN.{get_or, length}
use borrow.Author.Tests.{eq-eqb, ne_eqb}
use Rattle.model.specs.Notation.{if◌then◌otherwise◌, sum_of, below}
use Rattle.model.specs.Limits.{group_limit}
use Rattle.model.specs.Declarations.{Declarations, is_holder, holder_numbers_of}
use Rattle.model.specs.Ties.{Ties, up, Below, one, more, is_below}
use Rattle.model.specs.Edits.{ties_up, set_joins}
use Rattle.model.specs.Standing.{Standing}
use Rattle.model.proofs.Options.{parts}
use Rattle.model.proofs.Lists.{◌∈◌, same_truth, true-or-false, length-below}
use Rattle.model.proofs.Sums.{sum-last, sum-ext, sum-none, sum-most, sum-filter}
use Rattle.model.proofs.Numbered.{sum-split, sum-numbers, count-numbers}
use Rattle.model.proofs.Chains.{is_below_lem}
use Rattle.model.proofs.Standing.{among, holder_in, holder-below}
use Rattle.model.proofs.Joins.{ties-up-once}
use Rattle.bits.specs.Bits.{bit, any_below, count_below}
use Rattle.bits.proofs.Counts.{any-find, count-ext, count-below-le, count-places}
use Rattle.ties.specs.TieArrays.{tied_up, meets, under, Distinct, KeepsTies, Room, Under, here, over, Marks}
use Rattle.ties.specs.TieJoins.{joins_by, joins_at, joins_under}
use Rattle.ties.proofs.Masks.{in-use-lt}
use Rattle.ties.proofs.Keeps.{tied-lt, slot-up}
use Rattle.ties.proofs.Below.{above-meets, holders-fit}

-- ---- on any arrays

pub joins-by-few : (mask : ℕ) → joins_by mask ≤ group_limit + 1
unfolding joins_by
joins-by-few mask = omega (arith, count-below-le 64 (bit mask))

-- holder k's, by whether it is under e
module _ (ups : List ℕ) (m e k : ℕ) where
  at-by : (b : Bool) → under ups m e k ≡ b → joins_at ups m e k ≡ (if b then joins_by (get_or ups k 0) otherwise 0)
  unfolding joins_at
  at-by b on = ap (λ (b : Bool). if b then joins_by (get_or ups k 0) otherwise 0) on

  pub joins-at : under ups m e k ≡ true → joins_at ups m e k ≡ joins_by (get_or ups k 0)
  joins-at on = at-by true on

  pub none-at : under ups m e k ≡ false → joins_at ups m e k ≡ 0
  none-at off = at-by false off

  -- what takes a join is under e, and what takes none is not
  pub at_some : (joins_at ups m e k ≡ 0 → ⊥) → under ups m e k ≡ true
  at_some some = ⊎_elim (λ y. y) (λ y. absurd (some (none-at y))) (true-or-false (under ups m e k))

  pub at_none : joins_at ups m e k ≡ 0 → under ups m e k ≡ false
  unfolding joins_by
  at_none none = ⊎_elim (λ y. absurd (omega (arith, none, joins-at y))) (λ y. y) (true-or-false (under ups m e k))

  pub joins-at-few : joins_at ups m e k ≤ group_limit + 1
  joins-at-few = ⊎_elim (λ y. omega (arith, joins-at y, joins-by-few (get_or ups k 0))) (λ y. omega (arith, none-at y)) (true-or-false (under ups m e k))

-- the sum
module _ (ups : List ℕ) (m e : ℕ) where
  pub joins-none : joins_under ups m e 0 ≡ 0
  unfolding joins_under
  joins-none = refl

  -- a turn of a loop
  pub joins-more : (k : ℕ) → joins_under ups m e (k + 1) ≡ joins_under ups m e k + joins_at ups m e k
  unfolding joins_under
  joins-more k = ap (λ (n : ℕ). sum_of (joins_at ups m e) (below n)) (add-one k) ∙ sum-last (joins_at ups m e) (below k) k

  -- at most 65 for each holder
  pub joins-few : (n : ℕ) → joins_under ups m e n ≤ (group_limit + 1) * n
  unfolding joins_under
  joins-few n = omega (arith, sum-most (joins_at ups m e) (group_limit + 1) (below n) (λ k i. joins-at-few ups m e k), length-below n)

  -- where nobody is under e but e itself
  pub joins-alone : (n : ℕ) → e < n → ((k : ℕ) → under ups m e k ≡ eqb k e) → joins_under ups m e n ≡ joins_by (get_or ups e 0)
  unfolding joins_under
  joins-alone n l only =
      let others = sum-none (λ k. if eqb k e then 0 otherwise joins_at ups m e k) (below n) (λ k i. other k (true-or-false (eqb k e))) in
      omega (arith, sum-split (joins_at ups m e) e n l, others, joins-at ups m e e (only e ∙ eq-eqb e e refl))
    where
      other : (k : ℕ) → (eqb k e ≡ true) ⊎ (eqb k e ≡ false) → ◌≡◌ {A = ℕ} (if eqb k e then 0 otherwise joins_at ups m e k) 0
      other k (inl y) = ap (λ (b : Bool). if b then 0 otherwise joins_at ups m e k) y
      other k (inr y) = ap (λ (b : Bool). if b then 0 otherwise joins_at ups m e k) y ∙ none-at ups m e k (only k ∙ y)

-- ---- on arrays that keep ties

module _ {ups own slots : List ℕ} {T : Ties} (kept : KeepsTies ups own slots T) where
  -- the group of a slot under e is e, or below it
  under-below : {e q : ℕ} → Under ups slots e q → (get_or slots q 0 ≡ e) ⊎ Below T (get_or slots q 0) e
  under-below (here u at) = inl at
  under-below {e} (over {q = q} {r = r} u low on c) =
      let t = slot-up kept (get_or slots q 0) r (in-use-lt (length ups) slots q u).1 low on in
      inr (⊎_elim (λ at. one (subst (λ (g : ℕ). up T (get_or slots q 0) g ≡ true) at t)) (λ b. more t b) (under-below c))

  meets-below : (e m : ℕ) → Marks ups slots e m → (k : ℕ) → meets (get_or ups k 0) m ≡ true → Below T k e
  unfolding meets tied_up
  meets-below e m marks k y =
      let r = any-find 64 (λ q. bit (get_or ups k 0) q && bit m q) y in
      let s = parts (bit (get_or ups k 0) r.0) (bit m r.0) r.2 in
      let t = slot-up kept k r.0 (tied-lt ups k r.0 s.0) r.1 s.0 in
      ⊎_elim (λ at. one (subst (λ (g : ℕ). up T k g ≡ true) at t)) (λ b. more t b) (under-below (marks.sound r.0 r.1 s.1))

module _ (ups own slots : List ℕ) (D : Declarations) (T : Ties) (standing : Standing (record { declared = D; ties = T })) (kept : KeepsTies ups own slots T)
    (room : Room D (length ups)) where
  -- who is under e
  under-is : (e m : ℕ) → Marks ups slots e m → (k : ℕ) → (eqb k e || is_below (holder_numbers_of D) T k e) ≡ under ups m e k
  unfolding under
  under-is e m marks k =
      let below = is_below_lem (holder_numbers_of D) T (among standing) standing.acyclic k e in
      ap (λ (b : Bool). eqb k e || b) (same_truth (is_below (holder_numbers_of D) T k e) (meets (get_or ups k 0) m)
      (λ y. above-meets kept (holders-fit ups D T standing room) e m marks k (below.0 y)) (λ y. below.1 (meets-below kept e m marks k y)))

  absent : (k : ℕ) → (k ∈ holder_numbers_of D → ⊥) → is_holder D k ≡ false
  absent k out = ⊎_elim (λ e. absurd (out (holder_in D k e))) (λ e. e) (true-or-false (is_holder D k))

  -- a holder's ties up are the bits of its mask
  ties-are-bits : (k : ℕ) → k < length ups → ties_up (holder_numbers_of D) T k ≡ count_below 64 (bit (get_or ups k 0))
  unfolding holder_numbers_of tied_up count_below Distinct
  ties-are-bits k few =
      ties-up-once standing k
      ∙ count-numbers (λ h. h.number) (up T k) D.holders (length ups) standing.declarations.holders.ordered (λ g i. room g (holder-below D g i))
      (λ g l out. ⊎_elim (λ e. absurd (out ((among standing).upper k g e))) (λ e. e) (true-or-false (up T k g)))
      ∙ count-ext (length ups) (up T k) (λ g. any_below 64 (λ q. bit (get_or ups k 0) q && eqb (get_or slots q 0) g)) (λ g l. kept.groups k g few)
      ∙ count-places (bit (get_or ups k 0)) (λ q. get_or slots q 0) (length ups) 64 (λ q l on. (in-use-lt (length ups) slots q (kept.used k q few l on)).1)
      (λ q r l low on o same. kept.distinct r q low l (kept.used k r few low o) same)

  -- document 02, E3: the sum over the edited holder and each one below it
  pub joins-are : (e m : ℕ) → is_holder D e ≡ true → Marks ups slots e m → set_joins D T e ≡ joins_under ups m e (length ups)
  unfolding set_joins joins_under joins_at holder_numbers_of joins_by
  joins-are e m there marks =
      sum-filter (λ k. 1 + ties_up (holder_numbers_of D) T k) (λ k. eqb k e || is_below (holder_numbers_of D) T k e) (holder_numbers_of D)
      ∙ sum-ext (λ k. if eqb k e || is_below (holder_numbers_of D) T k e then 1 + ties_up (holder_numbers_of D) T k otherwise 0) (joins_at ups m e) (holder_numbers_of D)
      (λ k i. ap₂ (λ (b : Bool) (n : ℕ). if b then 1 + n otherwise 0) (under-is e m marks k) (ties-are-bits k (room k (holder-below D k i))))
      ∙ sum-numbers (λ h. h.number) (joins_at ups m e) D.holders (length ups) standing.declarations.holders.ordered (λ k i. room k (holder-below D k i))
      (λ k l out. none-at ups m e k (outside k (absent k out)))
    where
      -- who is no holder is not under e
      outside : (k : ℕ) → is_holder D k ≡ false → under ups m e k ≡ false
      outside k off =
          sym (under-is e m marks k)
          ∙ ap₂ (λ (a b : Bool). a || b) (ne_eqb k e (λ z. true≢false (sym there ∙ ap (is_holder D) (sym z) ∙ off)))
          (⊎_elim (λ y. absurd (true≢false (sym (is-holder k ((is_below_lem (holder_numbers_of D) T (among standing) standing.acyclic k e).0 y)) ∙ off))) (λ y. y)
          (true-or-false (is_below (holder_numbers_of D) T k e)))
        where
          is-holder : (k : ℕ) {g : ℕ} → Below T k g → is_holder D k ≡ true
          is-holder k (one {g = g} t) = holder-below D k ((among standing).lower k g t)
          is-holder k (more {m = m} t c) = holder-below D k ((among standing).lower k m t)
