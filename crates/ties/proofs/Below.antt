-- The groups below a holder in the arrays are those below it by the ties that the arrays keep. Assumes nothing.
use Prim.Native.Nat.{ℕ, ◌<◌}
use mathlib.Core.Path.{◌≡◌, refl, ap, ◌∙◌, subst}
use mathlib.Core.Logic.{⊎_elim}
use mathlib.Core.Bool.{Bool, true, ◌&&◌}
use mathlib.Core.List.{List}
use lib.ListN.{get_or, length}
use Rattle.model.specs.Declarations.{Declarations, holder_numbers_of}
use Rattle.model.specs.Ties.{Ties, up, Below, one, more, is_below}
use Rattle.model.proofs.Options.{both}
use Rattle.model.proofs.Lists.{same_truth, true-or-false}
use Rattle.model.proofs.Chains.{is_below_lem}
use Rattle.model.specs.Standing.{Standing}
use Rattle.model.proofs.Standing.{among, holder-below}
use Rattle.bits.specs.Bits.{bit}
use Rattle.ties.specs.TieArrays.{in_use, tied_up, meets, KeepsTies, Room, Under, here, over, Marks, LeadsTo}
use Rattle.bits.proofs.Counts.{find-any}
use Rattle.ties.proofs.Keeps.{up-slot}
use Rattle.ties.proofs.Climbing.{above-below, below-above}

module _ {ups own slots : List ℕ} {T : Ties} (kept : KeepsTies ups own slots T) where
  module _ (few : (h g : ℕ) → up T h g ≡ true → h < length ups) where
    above-under : {e h : ℕ} → Below T h e → (q : ℕ) → in_use (length ups) slots q ≡ true → get_or slots q 0 ≡ h → Under ups slots e q
    above-under (one {h = h} {g = e} t) q u at =
        let r = up-slot kept h e (few h e t) t in
        over u r.1 (ap (λ (x : ℕ). tied_up ups x r.0) at ∙ r.2) (here (kept.used h r.0 (few h e t) r.1 r.2) r.3)
    above-under (more {h = h} {m = m} t c) q u at =
        let r = up-slot kept h m (few h m t) t in
        over u r.1 (ap (λ (x : ℕ). tied_up ups x r.0) at ∙ r.2) (above-under c r.0 (kept.used h r.0 (few h m t) r.1 r.2) r.3)

    -- one tie leads into the mask where e is above
    module _ (e m : ℕ) (marks : Marks ups slots e m) (k : ℕ) where
      above-slot : Below T k e → (q : ℕ) × (q < 64) × (tied_up ups k q ≡ true) × Under ups slots e q
      above-slot c = by c k refl
        where
          by : {h : ℕ} → Below T h e → (k : ℕ) → k ≡ h → (q : ℕ) × (q < 64) × (tied_up ups k q ≡ true) × Under ups slots e q
          by (one {h = h} t) k at =
              let r = up-slot kept h e (few h e t) t in
              (r.0, r.1, ap (λ (x : ℕ). tied_up ups x r.0) at ∙ r.2, here (kept.used h r.0 (few h e t) r.1 r.2) r.3)
          by (more {h = h} {m = m} t c) k at =
              let r = up-slot kept h m (few h m t) t in
              (r.0, r.1, ap (λ (x : ℕ). tied_up ups x r.0) at ∙ r.2, above-under c r.0 (kept.used h r.0 (few h m t) r.1 r.2) r.3)

      pub above-meets : Below T k e → meets (get_or ups k 0) m ≡ true
      unfolding meets tied_up
      above-meets c =
          let r = above-slot c in
          find-any 64 (λ q. bit (get_or ups k 0) q && bit m q) r.0 r.1 (both r.2 (marks.complete r.0 r.1 r.3))

-- a standing state's ties are those of holders of the arrays, where these have room for its holders
pub holders-fit : (ups : List ℕ) (D : Declarations) (T : Ties) → Standing (record { declared = D; ties = T }) → Room D (length ups)
    → (h g : ℕ) → up T h g ≡ true → h < length ups
unfolding holder_numbers_of
holders-fit ups D T standing room h g e = room h (holder-below D h ((among standing).lower h g e))

-- a chain of ties leads from g up to `child` exactly where g is below it
pub leads-below : (ups own slots : List ℕ) (D : Declarations) (T : Ties) → Standing (record { declared = D; ties = T }) → KeepsTies ups own slots T → Room D (length ups)
    → (child g : ℕ) (r : Bool) → LeadsTo ups slots g child r → r ≡ is_below (holder_numbers_of D) T g child
leads-below ups own slots D T standing kept room child g r leads =
    let above = is_below_lem (holder_numbers_of D) T (among standing) standing.acyclic g child in
    same_truth r (is_below (holder_numbers_of D) T g child)
    (λ y. let s = leads.leads y in above.1 (subst (Below T g) s.2 (above-below kept s.1)))
    (λ y. ⊎_elim (λ z. z)
    (λ z. let s = below-above kept (holders-fit ups D T standing room) (above.0 y) in absurd (leads.none z s.0 s.1 s.2))
    (true-or-false r))
