-- Ties in arrays. A group has a slot: `slots` gives the holder number of each, and `slot_of` for each holder 1 + its slot, 0 if it is no group; a holder's
-- ties up are a mask over slots, in `ups`; its own pairs are four words, in `own`. The number of holders is that of the words of `ups`.
-- Assumes nothing: these are definitions.
use Rattle.std.specs.Prelude.{ℕ, ◌<◌, ◌≡◌, Bool, true, false, not, ◌&&◌, ◌||◌, List, eqb, ltb, get_or, length}
use Rattle.model.specs.Limits.{group_limit, pair_limit}
use Rattle.model.specs.Declarations.{Declarations, is_holder, holder_numbers_of}
use Rattle.model.specs.Ties.{Ties, value, up, closes_circle}
use Rattle.model.specs.Standing.{Standing}
use Rattle.bits.specs.Bits.{bit, holds, any_below}

-- slot q is in use: it has the number of a holder. Number 0 is the admin's, who is no group, so a slot of 0 is free
unfoldable pub in_use : ℕ → List ℕ → ℕ → Bool
in_use n slots q = ltb 0 (get_or slots q 0) && ltb (get_or slots q 0) n

-- holder k's own word, in `slot_of`, tells a slot
unfoldable pub grouped : List ℕ → ℕ → Bool
grouped slot_of k = not (eqb (get_or slot_of k 0) 0)

-- the mask m has each slot below n that has a number: no other is in use
abbrev pub HasNumbered : List ℕ → ℕ → ℕ → Type 0
HasNumbered slots n m = (q : ℕ) → q < n → 0 < get_or slots q 0 → bit m q ≡ true

-- holder h has a tie up to the group of slot q
unfoldable pub tied_up : List ℕ → ℕ → ℕ → Bool
tied_up ups h q = bit (get_or ups h 0) q

-- two masks have a slot in common
unfoldable pub meets : ℕ → ℕ → Bool
meets a b = any_below group_limit (λ q. bit a q && bit b q)

-- no two slots in use have one holder
unfoldable pub Distinct : ℕ → List ℕ → Type 0
Distinct n slots = (q r : ℕ) → q < group_limit → r < group_limit → in_use n slots q ≡ true → get_or slots r 0 ≡ get_or slots q 0 → r ≡ q

-- the words of `slot_of` tell a slot of just those holders, of n, that are the group of a slot in use
pub record TellsGroups (n : ℕ) (slots slot_of : List ℕ) : Type 0 where
  pub told : (q : ℕ) → q < group_limit → in_use n slots q ≡ true → grouped slot_of (get_or slots q 0) ≡ true
  pub slot : (k : ℕ) → grouped slot_of k ≡ true → (q : ℕ) × (q < group_limit) × (in_use n slots q ≡ true) × (get_or slots q 0 ≡ k)

-- the arrays keep the ties T
pub record KeepsTies (ups own slots : List ℕ) (T : Ties) : Type 0 where
  pub pairs : (h p : ℕ) → h < length ups → p < pair_limit → holds own h p ≡ T (value h p)
  pub groups : (h g : ℕ) → h < length ups → up T h g ≡ any_below group_limit (λ q. tied_up ups h q && eqb (get_or slots q 0) g)
  pub used : (h q : ℕ) → h < length ups → q < group_limit → tied_up ups h q ≡ true → in_use (length ups) slots q ≡ true
  pub distinct : Distinct (length ups) slots

-- arrays for n holders have room for those of D
abbrev pub Room : Declarations → ℕ → Type 0
Room D n = (k : ℕ) → is_holder D k ≡ true → k < n

-- the group of slot q is holder e, or a chain of ties leads from it up to e
pub data Under (ups slots : List ℕ) (e : ℕ) : ℕ → Type 0 where
  here : {q : ℕ} → in_use (length ups) slots q ≡ true → get_or slots q 0 ≡ e → Under ups slots e q
  over : {q r : ℕ} → in_use (length ups) slots q ≡ true → r < group_limit → tied_up ups (get_or slots q 0) r ≡ true → Under ups slots e r → Under ups slots e q

-- the slots of the mask m are all of such groups
abbrev pub AllUnder : List ℕ → List ℕ → ℕ → ℕ → Type 0
AllUnder ups slots e m = (q : ℕ) → q < group_limit → bit m q ≡ true → Under ups slots e q

-- the mask m has the slots of just those groups
pub record Marks (ups slots : List ℕ) (e m : ℕ) : Type 0 where
  pub sound : AllUnder ups slots e m
  pub complete : (q : ℕ) → q < group_limit → Under ups slots e q → bit m q ≡ true

-- a chain of ties leads from holder k up to the group of slot q
pub data Above (ups slots : List ℕ) : ℕ → ℕ → Type 0 where
  next : {k q : ℕ} → q < group_limit → tied_up ups k q ≡ true → Above ups slots k q
  far : {k r q : ℕ} → r < group_limit → tied_up ups k r ≡ true → Above ups slots (get_or slots r 0) q → Above ups slots k q

-- r tells whether a chain of ties leads from holder k up to holder e
pub record LeadsTo (ups slots : List ℕ) (k e : ℕ) (r : Bool) : Type 0 where
  pub leads : r ≡ true → (q : ℕ) × Above ups slots k q × (get_or slots q 0 ≡ e)
  pub none : r ≡ false → (q : ℕ) → Above ups slots k q → get_or slots q 0 ≡ e → ⊥

-- holder k is e, or one tie leads from it up to a group of the mask m
unfoldable pub under : List ℕ → ℕ → ℕ → ℕ → Bool
under ups m e k = eqb k e || meets (get_or ups k 0) m

-- from the mask m to r: no slot is lost; where all slots of m are of groups that are e or below it, so are those of r; and every group that is e, or has a
-- tie up to a group of m, has its slot in r
pub record Widened (ups slots : List ℕ) (e m r : ℕ) : Type 0 where
  pub grows : (q : ℕ) → q < group_limit → bit m q ≡ true → bit r q ≡ true
  pub sound : AllUnder ups slots e m → AllUnder ups slots e r
  pub takes : (q : ℕ) → q < group_limit → in_use (length ups) slots q ≡ true → under ups m e (get_or slots q 0) ≡ true → bit r q ≡ true

-- "parent tie that closes a circle, itself included", for every standing state that the arrays keep, with room for its holders
unfoldable pub ClosesCircle : List ℕ → List ℕ → ℕ → ℕ → Bool → Type 0
ClosesCircle ups slots child g r =
    (D : Declarations) (T : Ties) (own : List ℕ) → Standing (record { declared = D; ties = T }) → KeepsTies ups own slots T → Room D (length ups)
    → r ≡ closes_circle (holder_numbers_of D) T child g
