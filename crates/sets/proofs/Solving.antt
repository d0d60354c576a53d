-- The specification's effective sets solve the sentence over the arrays that keep the ties. Assumes nothing.
use Prim.Native.Nat.{ℕ, zero, suc, ◌*◌, ◌/◌, ◌^◌, ◌≤◌, ◌<◌}
use mathlib.Core.Path.{◌≡◌, refl, sym, ap, ap₂, ◌∙◌, subst}
use mathlib.Core.Logic.{◌⊎◌, inl, inr}
use mathlib.Core.Bool.{Bool, true, false, ◌&&◌, ◌||◌, or-false, true≢false}
use mathlib.Core.List.{List}
use native.Mathlib.Decide.{ℕ_discrete}
use native.Mathlib.Omega.{arith}
use lib.Dec.{eqb}
use lib.ListN.{length, get_or}
use borrow.Author.Tests.{eq-eqb, eqb-true}
use Rattle.model.specs.Notation.{any_of}
use Rattle.model.specs.Declarations.{Declarations, is_holder, holder_numbers_of}
use Rattle.model.specs.Ties.{Ties, up}
use Rattle.model.specs.Ties
use Rattle.model.specs.Effective.{effective}
use Rattle.model.specs.Table.{effective_set}
use Rattle.model.proofs.Options.{parts, both}
use Rattle.model.proofs.Lists.{same_truth, any-in, in-any, in-filter, filter-in, true-or-false}
use Rattle.model.proofs.Chains
use Rattle.model.proofs.Chains.{acyclic-depth}
use Rattle.model.proofs.Effective.{effective-equation}
use Rattle.model.specs.Standing.{Standing}
use Rattle.model.proofs.Standing.{among, numbers-length, holder_in, holder-below, holder-fits, room-length}
use Rattle.bits.specs.Bits.{bit, holds, any_below}
use Rattle.bits.proofs.Walks.{none_left}
use Rattle.ties.specs.TieArrays.{in_use, tied_up, KeepsTies, Room}
use Rattle.ties.proofs.Masks.{in-use-lt}
use Rattle.bits.proofs.Counts.{any-find, find-any}
use Rattle.ties.proofs.Keeps.{up-slot, slot-up}
use Rattle.sets.specs.Settled.{Solves, RightAt, Right, ShortChains, Settled, AllDeep, GroupsRight, StoredTied}
use Rattle.sets.specs.Filled.{KeepsSets, Filled}
use Rattle.sets.proofs.LentSets.{holds_kept}
use Rattle.sets.proofs.Tables.{sets-table}

-- ---- chains in the arrays

module _ {ups own slots : List ℕ} {T : Ties} (kept : KeepsTies ups own slots T) where
  depth-kept : (n m q : ℕ) → n ≤ m → get_or slots q 0 < length ups → Chains.Depth T n (get_or slots q 0) → ShortChains ups slots m q
  unfolding Chains.Depth ShortChains
  depth-kept zero m q l few d = absurd d
  depth-kept (suc n) zero q l few d = absurd (omega arith)
  depth-kept (suc n) (suc m) q l few d =
      λ r low e. depth-kept n m r (omega arith) (in-use-lt (length ups) slots r (kept.used (get_or slots q 0) r few low e)).1 (d (get_or slots r 0) (slot-up kept (get_or slots q 0) r few low e))

  -- a holder with no ties
  no-ties : (m q : ℕ) → 0 < m → get_or slots q 0 < length ups → ((g : ℕ) → up T (get_or slots q 0) g ≡ true → ⊥) → ShortChains ups slots m q
  unfolding ShortChains
  no-ties zero q l few n = absurd (omega arith)
  no-ties (suc m) q l few n = λ r low e. absurd (n (get_or slots r 0) (slot-up kept (get_or slots q 0) r few low e))

module _ (ups own slots : List ℕ) (D : Declarations) (T : Ties) (standing : Standing (record { declared = D; ties = T })) (kept : KeepsTies ups own slots T) where
  pub all-deep : Room D (length ups) → AllDeep ups slots
  unfolding AllDeep
  all-deep room q low u = go (true-or-false (is_holder D (get_or slots q 0)))
    where
      few : get_or slots q 0 < length ups
      few = (in-use-lt (length ups) slots q u).1

      go : (is_holder D (get_or slots q 0) ≡ true) ⊎ (is_holder D (get_or slots q 0) ≡ false) → ShortChains ups slots (length ups) q
      go (inl h) =
          depth-kept kept (length (holder_numbers_of D)) (length ups) q (omega (arith, numbers-length D, room-length standing (length ups) room)) few
          (acyclic-depth (holder_numbers_of D) T (among standing) standing.acyclic (get_or slots q 0) (holder_in D (get_or slots q 0) h))
      go (inr n) = no-ties kept (length ups) q (omega (arith, few)) few (λ g e. true≢false (sym (holder-below D (get_or slots q 0) ((among standing).lower (get_or slots q 0) g e)) ∙ n))

  -- the sentence, over slots
  inherits : (k p : ℕ) → k < length ups
      → any_of (λ g. effective (holder_numbers_of D) T g p) (Ties.ups (holder_numbers_of D) T k)
      ≡ any_below 64 (λ q. tied_up ups k q && effective (holder_numbers_of D) T (get_or slots q 0) p)
  inherits k p few =
      same_truth _ (any_below 64 (λ q. tied_up ups k q && effective (holder_numbers_of D) T (get_or slots q 0) p))
      (λ e.
      let r = any-in (λ g. effective (holder_numbers_of D) T g p) (Ties.ups (holder_numbers_of D) T k) e in
      let s = up-slot kept k r.0 few (in-filter (up T k) (holder_numbers_of D) r.1).1 in
      find-any 64 (λ q. tied_up ups k q && effective (holder_numbers_of D) T (get_or slots q 0) p) s.0 s.1
      (both s.2 (ap (λ (g : ℕ). effective (holder_numbers_of D) T g p) s.3 ∙ r.2)))
      (λ e.
      let r = any-find 64 (λ q. tied_up ups k q && effective (holder_numbers_of D) T (get_or slots q 0) p) e in
      let s = parts (tied_up ups k r.0) (effective (holder_numbers_of D) T (get_or slots r.0 0) p) r.2 in
      let u = slot-up kept k r.0 few r.1 s.0 in
      in-any (λ g. effective (holder_numbers_of D) T g p) (filter-in (up T k) ((among standing).upper k (get_or slots r.0 0) u) u) s.1)

  pub effective-solves : Solves ups own slots (effective_set D T)
  unfolding effective_set
  effective-solves = record {
    sentence = λ k p few h. effective-equation (holder_numbers_of D) T (among standing) standing.acyclic k p ∙ ap₂ (λ (a b : Bool). a || b) (sym (kept.pairs k p few h)) (inherits k p few);
    used = kept.used;
  }

-- ---- groups, then the others

-- every group is settled
pub groups-right : {ups own slots t t₁ m m₁ : List ℕ} {d d₁ : ℕ} (f : ℕ → ℕ → Bool) → Settled ups own slots t t₁ m m₁ d d₁ (AllDeep ups slots) (λ g. g < 64)
    → Solves ups own slots f → Right (length ups) slots f t d → AllDeep ups slots → GroupsRight (length ups) slots f t₁
unfolding Right GroupsRight
groups-right f a s r deep g l u = a.right f s r deep g l u (a.marked deep g l u l)

-- a mask that has no slot in use
pub right-free : (n : ℕ) (slots : List ℕ) (f : ℕ → ℕ → Bool) (t : List ℕ) (d : ℕ) → ((g : ℕ) → g < 64 → in_use n slots g ≡ true → bit d g ≡ false) → Right n slots f t d
unfolding Right
right-free n slots f t d free g l u on = absurd (true≢false (sym on ∙ free g l u))

-- a holder with no tie up has its own pairs
untied-right : (ups own slots t : List ℕ) (f : ℕ → ℕ → Bool) → Solves ups own slots f → (k : ℕ) → k < length ups → get_or ups k 0 ≡ 0 → ((j : ℕ) → j / 4 ≡ k → get_or t j 0 ≡ get_or own j 0)
    → RightAt f t k
unfolding RightAt tied_up
untied-right ups own slots t f s k few none same p h =
    holds_kept own t k p h same ∙ sym (or-false (holds own k p))
    ∙ ap (λ (b : Bool). holds own k p || b) (sym (none_left (get_or ups k 0) 64 (λ q. f (get_or slots q 0) p) none)) ∙ sym (s.sentence k p few h)

-- own pairs, then the groups, and then the holders that have a tie
module _ (ups own slots t t₁ t₂ m m₁ : List ℕ) (d d₁ : ℕ) (free : (g : ℕ) → g < 64 → in_use (length ups) slots g ≡ true → bit d g ≡ false) (few : length ups ≤ 256) (tall : length t₂ ≡ 4 * length ups) (fit : (j : ℕ) → get_or t₂ j 0 < 2 ^ 64)
    (copied : (j : ℕ) → get_or t j 0 ≡ get_or own j 0)
    (a : Settled ups own slots t t₁ m m₁ d d₁ (AllDeep ups slots) (λ g. g < 64)) (b : StoredTied ups own slots t₁ t₂ (length ups)) where
  module _ (f : ℕ → ℕ → Bool) (s : Solves ups own slots f) (r : GroupsRight (length ups) slots f t₁) (k : ℕ) (l : k < length ups) where
    -- a group is settled, another holder with no tie has its own pairs
    before-ties : get_or ups k 0 ≡ 0 → RightAt f t₁ k
    unfolding GroupsRight
    before-ties none = go (any_below 64 has-slot) refl
      where
        has-slot : ℕ → Bool
        has-slot q = in_use (length ups) slots q && eqb (get_or slots q 0) k

        go : (y : Bool) → any_below 64 has-slot ≡ y → RightAt f t₁ k
        go true y =
            let q = any-find 64 has-slot y in
            let u = parts (in_use (length ups) slots q.0) (eqb (get_or slots q.0 0) k) q.2 in
            subst (RightAt f t₁) (eqb-true (get_or slots q.0 0) k u.1) (r q.0 q.1 u.0)
        go false y =
            untied-right ups own slots t₁ f s k l none
            (λ j at. a.others j (λ q low u off on x. true≢false (sym (find-any 64 has-slot q low (both u (eq-eqb (get_or slots q 0) k (sym x ∙ at)))) ∙ y)) ∙ copied j)

    each-holder : Dec (get_or ups k 0 ≡ 0) → RightAt f t₂ k
    each-holder (yes e) = b.stays f s r k (before-ties e)
    each-holder (no n) = b.right f s r k l n

  all_right : (D : Declarations) (T : Ties) → Standing (record { declared = D; ties = T }) → KeepsTies ups own slots T → Room D (length ups) → KeepsSets (length ups) t₂ D T
  unfolding KeepsSets RightAt
  all_right D T standing kept room k p h l =
      let s = effective-solves ups own slots D T standing kept in
      let r = groups-right (effective_set D T) a s (right-free (length ups) slots (effective_set D T) t d free) (all-deep ups own slots D T standing kept room) in
      each-holder (effective_set D T) s r k h (ℕ_discrete (get_or ups k 0) 0) p l

  pub filled : Filled ups own slots t₂
  filled = record {
    pairs = all_right;
    whole = λ D T standing kept long.
        sets-table D T standing t₂ (omega arith) fit (subst (λ (n : ℕ). KeepsSets n t₂ D T) long (all_right D T standing kept (λ k h. omega (arith, holder-fits standing k h))));
  }
