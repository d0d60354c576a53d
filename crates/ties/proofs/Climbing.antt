-- A walk up from a holder, which looks at each group above it once. Assumes nothing.
use Prim.Native.Nat.{ℕ, ◌<◌}
use mathlib.Core.Path.{◌≡◌, refl, sym, ap, ◌∙◌, subst}
use mathlib.Core.Logic.{⊎_elim}
use mathlib.Core.Bool.{Bool, true, false, not, ◌&&◌, ◌||◌, true≢false}
use mathlib.Core.List.{List}
use lib.Dec.{eqb}
use lib.ListN.{get_or, length}
use borrow.Author.Tests.{eq-eqb, eqb-true, not-true}
use Rattle.model.specs.Ties.{Ties, up, Below, one, more}
use Rattle.model.proofs.Options.{parts, both}
use Rattle.model.proofs.Lists.{or_cases, or_left, or_right, count-more, below_in}
use Rattle.bits.specs.Bits.{bit, count_below}
use Rattle.bits.proofs.Bits.{bit-none}
use Rattle.ties.specs.TieArrays.{tied_up, KeepsTies, Above, next, far, LeadsTo}
use Rattle.ties.proofs.Keeps.{tied-lt, up-slot, slot-up}

-- one tie further up
above_more : {ups slots : List ℕ} {k q r : ℕ} → Above ups slots k q → r < 64 → tied_up ups (get_or slots q 0) r ≡ true → Above ups slots k r
above_more (next l on) low t = far l on (next low t)
above_more (far l on c) low t = far l on (above_more c low t)

-- from holder k: what is left lies above it, and is not done; what lies one tie up from k, or from a group that is done, is done or left; none that is
-- done is e
pub record Climbed (ups slots : List ℕ) (k e done left : ℕ) : Type 0 where
  pub sound : (q : ℕ) → q < 64 → bit left q ≡ true → Above ups slots k q
  pub apart : (q : ℕ) → q < 64 → bit left q ≡ true → bit done q ≡ false
  pub first : (q : ℕ) → q < 64 → tied_up ups k q ≡ true → (bit done q || bit left q) ≡ true
  pub closed : (q r : ℕ) → q < 64 → r < 64 → bit done q ≡ true → tied_up ups (get_or slots q 0) r ≡ true → (bit done r || bit left r) ≡ true
  pub missed : (q : ℕ) → q < 64 → bit done q ≡ true → get_or slots q 0 ≡ e → ⊥

module _ (ups slots : List ℕ) (k e : ℕ) where
  pub climb-start : (left : ℕ) → left ≡ get_or ups k 0 → Climbed ups slots k e 0 left
  unfolding tied_up
  climb-start left by = record {
    sound = λ q l on. next l (ap (λ (w : ℕ). bit w q) (sym by) ∙ on);
    apart = λ q l on. bit-none q;
    first = λ q l on. or_right (bit 0 q) (bit left q) (ap (λ (w : ℕ). bit w q) by ∙ on);
    closed = λ q r l low on t. absurd (true≢false (sym on ∙ bit-none q));
    missed = λ q l on at. true≢false (sym on ∙ bit-none q);
  }

  -- the walk is over
  pub climb-none : {done left : ℕ} → Climbed ups slots k e done left → left ≡ 0 → LeadsTo ups slots k e false
  climb-none {done} {left} w e0 = record { leads = λ t. absurd (true≢false (sym t)); none = λ f q c at. (let r = reached k (λ q l on. only q (w.first q l on)) c in w.missed q r.0 r.1 at) }
    where
      only : (q : ℕ) → (bit done q || bit left q) ≡ true → bit done q ≡ true
      only q on = ⊎_elim (λ y. y) (λ y. absurd (true≢false (sym y ∙ ap (λ (w : ℕ). bit w q) e0 ∙ bit-none q))) (or_cases (bit done q) (bit left q) on)

      reached : (h : ℕ) {q : ℕ} → ((r : ℕ) → r < 64 → tied_up ups h r ≡ true → bit done r ≡ true) → Above ups slots h q → (q < 64) × (bit done q ≡ true)
      reached h {q} all (next l on) = (l, all q l on)
      reached h {q} all (far {r = r} l on c) = reached (get_or slots r 0) (λ s low t. only s (w.closed r s l low (all r l on) t)) c

  -- the group of slot q is looked at
  module _ {done left : ℕ} (w : Climbed ups slots k e done left) (q : ℕ) (l : q < 64) (on : bit left q ≡ true) where
    pub climb-found : get_or slots q 0 ≡ e → LeadsTo ups slots k e true
    climb-found at = record { leads = λ t. (q, w.sound q l on, at); none = λ f. absurd (true≢false f) }

    module _ (done' : ℕ) (with : (j : ℕ) → bit done' j ≡ (bit done j || eqb j q)) where
      -- fewer are not done
      pub climb-less : count_below 64 (λ j. not (bit done' j)) < count_below 64 (λ j. not (bit done j))
      unfolding count_below
      climb-less =
          count-more (λ j. not (bit done' j)) (λ j. not (bit done j)) (λ j y. still (bit done j) (bit done' j) (eqb j q) (with j) y) (below_in 64 q l)
          (ap not (with q ∙ or_right (bit done q) (eqb q q) (eq-eqb q q refl))) (ap not (w.apart q l on))
        where
          still : (a b c : Bool) → b ≡ (a || c) → not b ≡ true → not a ≡ true
          still true b c y n = absurd (true≢false (sym n ∙ ap not y))
          still false b c y n = refl

      module _ (up left' : ℕ) (miss : get_or slots q 0 ≡ e → ⊥) (by : up ≡ get_or ups (get_or slots q 0) 0)
          (rest : (j : ℕ) → j < 64 → bit left' j ≡ ((bit left j || bit up j) && not (bit done' j))) where
        joined : (j : ℕ) → j < 64 → (bit left j || bit up j) ≡ true → (bit done' j || bit left' j) ≡ true
        joined j low y = by_cases (bit done' j) (bit left' j) (bit left j || bit up j) (rest j low) y
          where
            by_cases : (a b x : Bool) → b ≡ (x && not a) → x ≡ true → (a || b) ≡ true
            by_cases true b x z y = refl
            by_cases false b x z y = z ∙ both y refl

        kept : (j : ℕ) → j < 64 → (bit done j || bit left j) ≡ true → (bit done' j || bit left' j) ≡ true
        kept j low y = ⊎_elim
            (λ z. or_left (bit done' j) (bit left' j) (with j ∙ or_left (bit done j) (eqb j q) z))
            (λ z. joined j low (or_left (bit left j) (bit up j) z))
            (or_cases (bit done j) (bit left j) y)

        done-or-now : (j : ℕ) → bit done' j ≡ true → (bit done j || eqb j q) ≡ true
        done-or-now j y = sym (with j) ∙ y

        pub climb-turn : Climbed ups slots k e done' left'
        unfolding tied_up
        climb-turn = record {
          sound = λ j low y.
              let s = parts (bit left j || bit up j) (not (bit done' j)) (sym (rest j low) ∙ y) in
              ⊎_elim (w.sound j low) (λ z. above_more (w.sound q l on) low (ap (λ (x : ℕ). bit x j) (sym by) ∙ z)) (or_cases (bit left j) (bit up j) s.0);
          apart = λ j low y. not-true (bit done' j) (parts (bit left j || bit up j) (not (bit done' j)) (sym (rest j low) ∙ y)).1;
          first = λ j low t. kept j low (w.first j low t);
          closed = λ i j a b y t. ⊎_elim
              (λ z. kept j b (w.closed i j a b z t))
              (λ z. joined j b (or_right (bit left j) (bit up j) (ap (λ (x : ℕ). bit x j) by ∙ ap (λ (x : ℕ). bit (get_or ups (get_or slots x 0) 0) j) (sym (eqb-true i q z)) ∙ t)))
              (or_cases (bit done i) (eqb i q) (done-or-now i y));
          missed = λ i a y at. ⊎_elim (λ z. w.missed i a z at) (λ z. miss (ap (λ (x : ℕ). get_or slots x 0) (sym (eqb-true i q z)) ∙ at)) (or_cases (bit done i) (eqb i q) (done-or-now i y));
        }

-- ---- what the arrays keep

module _ {ups own slots : List ℕ} {T : Ties} (kept : KeepsTies ups own slots T) where
  pub above-below : {k q : ℕ} → Above ups slots k q → Below T k (get_or slots q 0)
  above-below {k} {q} (next l on) = one (slot-up kept k q (tied-lt ups k q on) l on)
  above-below {k} {q} (far {r = r} l on c) = more (slot-up kept k r (tied-lt ups k r on) l on) (above-below c)

  pub below-above : ((h g : ℕ) → up T h g ≡ true → h < length ups) → {k g : ℕ} → Below T k g → (q : ℕ) × Above ups slots k q × (get_or slots q 0 ≡ g)
  below-above few (one {h = h} {g = g} t) =
      let r = up-slot kept h g (few h g t) t in (r.0, next r.1 r.2, r.3)
  below-above few (more {h = h} {m = m} t c) =
      let r = up-slot kept h m (few h m t) t in
      let s = below-above few c in
      (s.0, far r.1 r.2 (subst (λ (x : ℕ). Above ups slots x s.0) (sym r.3) s.1), s.2)
