-- What arrays that keep ties say of them. Assumes nothing.
use Prim.Native.Nat.{ℕ, ◌<◌}
use mathlib.Core.Path.{◌≡◌, refl, sym, ap, ◌∙◌}
use mathlib.Core.Bool.{true, ◌&&◌, true≢false}
use mathlib.Core.List.{List}
use native.Mathlib.Decide.{dec_lt}
use native.Mathlib.Omega.{arith}
use lib.Dec.{eqb}
use lib.ListN.{get_or, length, get_or-eq_default}
use borrow.Author.Tests.{eq-eqb, eqb-true}
use Rattle.model.specs.Ties.{Ties, up}
use Rattle.model.proofs.Options.{parts, both}
use Rattle.bits.specs.Bits.{bit}
use Rattle.bits.proofs.Bits.{bit-none}
use Rattle.bits.proofs.Counts.{any-find, find-any}
use Rattle.ties.specs.TieArrays.{tied_up, KeepsTies}

-- a tie is one of a holder
pub tied-lt : (ups : List ℕ) (k q : ℕ) → tied_up ups k q ≡ true → k < length ups
unfolding tied_up
tied-lt ups k q on = go (dec_lt k (length ups))
  where
    go : Dec (k < length ups) → k < length ups
    go (yes l) = l
    go (no n) = absurd (true≢false (sym on ∙ ap (λ (w : ℕ). bit w q) (get_or-eq_default ups 0 {n = k} (omega arith)) ∙ bit-none q))

module _ {ups own slots : List ℕ} {T : Ties} (kept : KeepsTies ups own slots T) where
  -- a tie up is a bit of the holder's mask
  pub up-slot : (h g : ℕ) → h < length ups → up T h g ≡ true → (q : ℕ) × (q < 64) × (tied_up ups h q ≡ true) × (get_or slots q 0 ≡ g)
  up-slot h g few e =
      let r = any-find 64 (λ q. tied_up ups h q && eqb (get_or slots q 0) g) (sym (kept.groups h g few) ∙ e) in
      let s = parts (tied_up ups h r.0) (eqb (get_or slots r.0 0) g) r.2 in
      (r.0, r.1, s.0, eqb-true (get_or slots r.0 0) g s.1)

  pub slot-up : (h q : ℕ) → h < length ups → q < 64 → tied_up ups h q ≡ true → up T h (get_or slots q 0) ≡ true
  slot-up h q few l e =
      kept.groups h (get_or slots q 0) few
      ∙ find-any 64 (λ r. tied_up ups h r && eqb (get_or slots r 0) (get_or slots q 0)) q l (both e (eq-eqb (get_or slots q 0) (get_or slots q 0) refl))
