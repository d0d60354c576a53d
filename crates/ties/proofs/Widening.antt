-- A mask that is widened until nothing is new has just the groups below a holder. Assumes nothing.
use Prim.Native.Nat.{ℕ, ◌^◌, ◌≤◌, ◌<◌}
use mathlib.Core.Path.{◌≡◌, refl, sym, ap, ◌∙◌, subst}
use mathlib.Core.Logic.{◌⊎◌, inl, inr, ⊎_elim}
use mathlib.Core.Bool.{Bool, true, false, not, ◌&&◌, ◌||◌, true≢false, and-true}
use mathlib.Core.List.{List}
use native.Mathlib.Decide.{ℕ_discrete, dec_lt}
use native.Mathlib.Omega.{arith}
use lib.Dec.{eqb}
use lib.ListN.{get_or, length}
use borrow.Author.Tests.{eq-eqb, eqb-true, ne_eqb, not-true}
use Rattle.model.proofs.Options.{parts, both}
use Rattle.model.proofs.Lists.{same_truth, true-or-false, or_cases, or_left, or_right, count-more, below_in}
use Rattle.bits.specs.Bits.{bit, any_below, count_below}
use Rattle.bits.proofs.Bits.{bit-none, bit_high, bit-ext}
use Rattle.bits.proofs.Counts.{any_none, any-find, find-any}
use Rattle.ties.specs.TieArrays.{in_use, HasNumbered, tied_up, meets, under, Under, here, over, AllUnder, Marks, Widened}
use Rattle.ties.proofs.Masks.{in-use-lt}

-- ---- masks that grow

-- each slot of m is one of m'
abbrev pub Grows : ℕ → ℕ → Type 0
Grows m m' = (q : ℕ) → q < 64 → bit m q ≡ true → bit m' q ≡ true

-- one mask is the other, or has fewer slots
pub grows-more : (m m' : ℕ) → m < 2 ^ 64 → m' < 2 ^ 64 → Grows m m' → (m' ≡ m → ⊥) → count_below 64 (bit m) < count_below 64 (bit m')
unfolding count_below
grows-more m m' f f' g n = go (any_below 64 new) refl
  where
    new : ℕ → Bool
    new q = bit m' q && not (bit m q)

    all : (q : ℕ) → bit m q ≡ true → bit m' q ≡ true
    all q on = ⊎_elim (λ l. g q l on) (λ l. absurd (true≢false (sym on ∙ bit_high 64 m q f l))) (split q)
      where
        split : (q : ℕ) → (q < 64) ⊎ (64 ≤ q)
        split q = by (dec_lt q 64)
          where
            by : Dec (q < 64) → (q < 64) ⊎ (64 ≤ q)
            by (yes l) = inl l
            by (no k) = inr (omega arith)

    back : (q : ℕ) → (bit m' q && not (bit m q)) ≡ false → bit m' q ≡ true → bit m q ≡ true
    back q e on = ⊎_elim (λ y. y) (λ y. absurd (true≢false (sym (both on (ap not y)) ∙ e))) (true-or-false (bit m q))

    go : (t : Bool) → any_below 64 new ≡ t → count_below 64 (bit m) < count_below 64 (bit m')
    go true e =
        let r = any-find 64 new e in
        let s = parts (bit m' r.0) (not (bit m r.0)) r.2 in
        count-more (bit m) (bit m') all (below_in 64 r.0 r.1) (not-true (bit m r.0) s.1) s.0
    go false e =
        absurd (n (bit-ext 64 m' m f' f (λ q l. same_truth (bit m' q) (bit m q) (back q (any_none 64 new e q l)) (g q l))))

-- ---- the mask that is widened

module _ (ups slots : List ℕ) (e : ℕ) where
  pub none-sound : AllUnder ups slots e 0
  none-sound q l on = absurd (true≢false (sym on ∙ bit-none q))

  slot-sound : (m : ℕ) → AllUnder ups slots e m → (q : ℕ) → (in_use (length ups) slots q && under ups m e (get_or slots q 0)) ≡ true → Under ups slots e q
  unfolding under meets tied_up
  slot-sound m sound q on =
      let k : ℕ = get_or slots q 0 in
      let s = parts (in_use (length ups) slots q) (under ups m e k) on in
      ⊎_elim (λ y. here s.0 (eqb-true k e y))
      (λ y.
      let r = any-find 64 (λ r. bit (get_or ups k 0) r && bit m r) y in
      let z = parts (bit (get_or ups k 0) r.0) (bit m r.0) r.2 in
      over s.0 r.1 z.0 (sound r.0 r.1 z.1))
      (or_cases (eqb k e) (meets (get_or ups k 0) m) s.1)

  -- what is under a mask is under one that has grown
  under_grows : (m next k : ℕ) → Grows m next → under ups m e k ≡ true → under ups next e k ≡ true
  unfolding under meets
  under_grows m next k grows on = ⊎_elim (or_left (eqb k e) (meets (get_or ups k 0) next))
      (λ y.
      let r = any-find 64 (λ r. bit (get_or ups k 0) r && bit m r) y in
      let z = parts (bit (get_or ups k 0) r.0) (bit m r.0) r.2 in
      or_right (eqb k e) (meets (get_or ups k 0) next) (find-any 64 (λ r. bit (get_or ups k 0) r && bit next r) r.0 r.1 (both z.0 (grows r.0 r.1 z.1))))
      (or_cases (eqb k e) (meets (get_or ups k 0) m) on)

  -- a walk over the slots: those of `left` are left, the others are taken where they are to be
  pub record SlotsPassed (m next : ℕ) (left : ℕ → Bool) : Type 0 where
    pub grows : Grows m next
    pub sound : AllUnder ups slots e m → AllUnder ups slots e next
    pub takes : (q : ℕ) → q < 64 → left q ≡ false → in_use (length ups) slots q ≡ true → under ups m e (get_or slots q 0) ≡ true → bit next q ≡ true

  -- at the start those are left that are in use and that m does not have
  pub pass-start : (m : ℕ) (left : ℕ → Bool) → ((q : ℕ) → q < 64 → left q ≡ false → in_use (length ups) slots q ≡ true → bit m q ≡ true) → SlotsPassed m m left
  pass-start m left most = record { grows = λ q l on. on; sound = λ all. all; takes = λ q l off u y. most q l off u }

  -- so it is where those of a mask are left that has all that have a number
  pub left-of : (used m : ℕ) (left : ℕ → Bool) → HasNumbered slots 64 used → ((q : ℕ) → q < 64 → left q ≡ ((bit used q || bit 0 q) && not (bit m q)))
      → (q : ℕ) → q < 64 → left q ≡ false → in_use (length ups) slots q ≡ true → bit m q ≡ true
  left-of used m left has is q l off u = ⊎_elim (λ y. y)
      (λ y. absurd (true≢false (sym (is q l ∙ both (or_left (bit used q) (bit 0 q) (has q l (in-use-lt (length ups) slots q u).0)) (ap not y)) ∙ off)))
      (true-or-false (bit m q))

  pub pass-end : {m next : ℕ} {left : ℕ → Bool} → SlotsPassed m next left → ((q : ℕ) → q < 64 → left q ≡ false) → Widened ups slots e m next
  pass-end p none = record { grows = p.grows; sound = p.sound; takes = λ q l. p.takes q l (none q l) }

  -- one walk after another
  pub widened_more : {m up next : ℕ} → Widened ups slots e m up → Widened ups slots e up next → Widened ups slots e m next
  widened_more a b = record {
    grows = λ q l on. b.grows q l (a.grows q l on);
    sound = λ all. b.sound (a.sound all);
    takes = λ q l u y. b.grows q l (a.takes q l u y);
  }

  -- slot q is looked at, and v is `left` without it
  module _ {m next : ℕ} {left : ℕ → Bool} (p : SlotsPassed m next left) (v : ℕ → Bool) (q : ℕ) (rest : (j : ℕ) → v j ≡ (left j && not (eqb j q))) where
    now-or-before : (j : ℕ) → v j ≡ false → (j ≡ q) ⊎ (left j ≡ false)
    now-or-before j off = go (ℕ_discrete j q)
      where
        go : Dec (j ≡ q) → (j ≡ q) ⊎ (left j ≡ false)
        go (yes y) = inl y
        go (no n) = inr (sym (and-true (left j)) ∙ ap (λ (b : Bool). left j && not b) (sym (ne_eqb j q n)) ∙ sym (rest j) ∙ off)

    pub pass_on : (next' : ℕ) → ((j : ℕ) → bit next' j ≡ (bit next j || eqb j q)) → (in_use (length ups) slots q && under ups next e (get_or slots q 0)) ≡ true → SlotsPassed m next' v
    pass_on next' with on = record {
      grows = λ j l y. with j ∙ or_left (bit next j) (eqb j q) (p.grows j l y);
      sound = λ all j l y. ⊎_elim (p.sound all j l)
          (λ z. subst (Under ups slots e) (sym (eqb-true j q z)) (slot-sound next (p.sound all) q on)) (or_cases (bit next j) (eqb j q) (sym (with j) ∙ y));
      takes = λ j l off u y. ⊎_elim
          (λ z. with j ∙ or_right (bit next j) (eqb j q) (eq-eqb j q z))
          (λ z. with j ∙ or_left (bit next j) (eqb j q) (p.takes j l z u y)) (now-or-before j off);
    }

    pub pass-off : (in_use (length ups) slots q && under ups next e (get_or slots q 0)) ≡ false → SlotsPassed m next v
    pass-off none = record {
      grows = p.grows;
      sound = p.sound;
      takes = λ j l off u y. ⊎_elim
          (λ z. absurd (true≢false (sym (both (ap (in_use (length ups) slots) (sym z) ∙ u) (under_grows m next (get_or slots q 0) p.grows (ap (λ (x : ℕ). under ups m e (get_or slots x 0)) (sym z) ∙ y))) ∙ none)))
          (λ z. p.takes j l z u y) (now-or-before j off);
    }

  -- a mask that does not grow has them all
  closed-complete : (m : ℕ) → Widened ups slots e m m → {q : ℕ} → Under ups slots e q → q < 64 → bit m q ≡ true
  unfolding under meets tied_up
  closed-complete m w {q} (here u at) l = w.takes q l u (or_left (eqb (get_or slots q 0) e) (meets (get_or ups (get_or slots q 0) 0) m) (eq-eqb (get_or slots q 0) e at))
  closed-complete m w {q} (over {r = r} u low on c) l =
      w.takes q l u (or_right (eqb (get_or slots q 0) e) (meets (get_or ups (get_or slots q 0) 0) m)
      (find-any 64 (λ r. bit (get_or ups (get_or slots q 0) 0) r && bit m r) r low (both on (closed-complete m w c low))))

  pub marks : (m next : ℕ) → next ≡ m → AllUnder ups slots e m → Widened ups slots e m next → Marks ups slots e m
  marks m next same sound w = record { sound = sound; complete = λ q l c. closed-complete m (subst (Widened ups slots e m) same w) c l }

  -- nobody is below e where that is the group of no slot
  pub none_below : ((q : ℕ) → q < 64 → in_use (length ups) slots q ≡ true → get_or slots q 0 ≡ e → ⊥) → Marks ups slots e 0
  none_below none = record { sound = none-sound; complete = λ q l c. absurd (go c l) }
    where
      go : {q : ℕ} → Under ups slots e q → q < 64 → ⊥
      go {q} (here u at) l = none q l u at
      go (over u low on c) l = go c low
