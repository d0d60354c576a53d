-- Sets of ties with one more and one less. Assumes nothing.
use Prim.Native.Nat.{ℕ}
use mathlib.Core.Path.{◌≡◌, refl, sym, ap, ap₂}
use mathlib.Core.Logic.{◌⊎◌, inl, inr, ⊎_elim}
use mathlib.Core.Bool.{true, false, not}
use lib.Dec.{eqb}
use borrow.Author.Tests.{eq-eqb, eqb-true}
use Rattle.model.specs.Ties.{Tie, Ties, edited_holder, same_tie, added, removed, up}
use Rattle.model.proofs.WordTables.{false-is-true}
use Rattle.model.proofs.Options.{parts, both}
use Rattle.model.proofs.Lists.{true-or-false, or_cases, or_left, or_right}

pub same-tie : (t u : Tie) → same_tie t u ≡ true → t ≡ u
same-tie (Tie.parent a b) (Tie.parent c d) e = ap₂ Tie.parent (eqb-true a c (parts (eqb a c) (eqb b d) e).0) (eqb-true b d (parts (eqb a c) (eqb b d) e).1)
same-tie (Tie.parent a b) (Tie.member c d) e = false-is-true e
same-tie (Tie.parent a b) (Tie.value c d) e = false-is-true e
same-tie (Tie.member a b) (Tie.parent c d) e = false-is-true e
same-tie (Tie.member a b) (Tie.member c d) e = ap₂ Tie.member (eqb-true a c (parts (eqb a c) (eqb b d) e).0) (eqb-true b d (parts (eqb a c) (eqb b d) e).1)
same-tie (Tie.member a b) (Tie.value c d) e = false-is-true e
same-tie (Tie.value a b) (Tie.parent c d) e = false-is-true e
same-tie (Tie.value a b) (Tie.member c d) e = false-is-true e
same-tie (Tie.value a b) (Tie.value c d) e = ap₂ Tie.value (eqb-true a c (parts (eqb a c) (eqb b d) e).0) (eqb-true b d (parts (eqb a c) (eqb b d) e).1)

pub tie-refl : (t : Tie) → same_tie t t ≡ true
tie-refl (Tie.parent a b) = both (eq-eqb a a refl) (eq-eqb b b refl)
tie-refl (Tie.member a b) = both (eq-eqb a a refl) (eq-eqb b b refl)
tie-refl (Tie.value a b) = both (eq-eqb a a refl) (eq-eqb b b refl)

-- a tie of another holder is another tie
pub other-tie : (t u : Tie) → (edited_holder u ≡ edited_holder t → ⊥) → same_tie t u ≡ false
other-tie t u n = ⊎_elim (λ e. absurd (n (ap edited_holder (sym (same-tie t u e))))) (λ e. e) (true-or-false (same_tie t u))

pub added-cases : (t : Tie) (T : Ties) (u : Tie) → added t T u ≡ true → (t ≡ u) ⊎ (T u ≡ true)
added-cases t T u e = ⊎_elim (λ s. inl (same-tie t u s)) inr (or_cases (same_tie t u) (T u) e)

pub removed-stood : (t : Tie) (T : Ties) (u : Tie) → removed t T u ≡ true → T u ≡ true
removed-stood t T u e = (parts (not (same_tie t u)) (T u) e).1

-- a tie up among those with one more stood before, or is the new one
pub up-added : (t : Tie) (T : Ties) (h g : ℕ) → up (added t T) h g ≡ true → (up T h g ≡ true) ⊎ ((t ≡ Tie.parent h g) ⊎ (t ≡ Tie.member h g))
up-added t T h g e =
    ⊎_elim
    (λ a. ⊎_elim (λ q. inr (inl q)) (λ q. inl (or_left (T (Tie.parent h g)) (T (Tie.member h g)) q)) (added-cases t T (Tie.parent h g) a))
    (λ a. ⊎_elim (λ q. inr (inr q)) (λ q. inl (or_right (T (Tie.parent h g)) (T (Tie.member h g)) q)) (added-cases t T (Tie.member h g) a))
    (or_cases (added t T (Tie.parent h g)) (added t T (Tie.member h g)) e)
