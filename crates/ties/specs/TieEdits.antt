-- One tie more or less in the arrays, and a slot for a new group. Each says what becomes of every word, and that the arrays keep the ties so changed.
-- Assumes nothing: these are definitions.
use Rattle.std.specs.Prelude.{ℕ, ◌<◌, ◌≡◌, ◌⊎◌, Bool, true, false, ◌&&◌, not, List, eqb, get_or, length, set}
use Rattle.std.proofs.Math.Option.{some}
use Rattle.model.specs.Notation.{if◌then◌otherwise◌}
use Rattle.model.specs.Limits.{group_limit, pair_limit}
use Rattle.model.specs.Declarations.{Declarations}
use Rattle.model.specs.Ties.{Tie, Ties, parent, member, value}
use Rattle.model.specs.Edits.{edited_ties}
use Rattle.model.specs.Standing.{Standing}
use Rattle.bits.specs.Bits.{holds}
use Rattle.ties.specs.TieArrays.{in_use, tied_up, KeepsTies}

-- t is a parent or member tie from h up to g
abbrev pub LeadsUp : Tie → ℕ → ℕ → Type 0
LeadsUp t h g = (t ≡ parent h g) ⊎ (t ≡ member h g)

-- holder h gets a tie up to the group of slot q, or loses it
pub record MaskChanged (ups : List ℕ) (h q : ℕ) (plus : Bool) (ups' : List ℕ) : Type 0 where
  pub bits : (k r : ℕ) → tied_up ups' k r ≡ (if eqb k h && eqb r q then plus otherwise tied_up ups k r)
  pub keeps : (own slots : List ℕ) (D : Declarations) (T : Ties) (t : Tie) → Standing (record { declared = D; ties = T }) → KeepsTies ups own slots T
      → in_use (length ups) slots q ≡ true → T t ≡ not plus → LeadsUp t h (get_or slots q 0) → KeepsTies ups' own slots (edited_ties plus (some t) T)

-- holder h gets the pair p, or loses it
pub record OwnChanged (own : List ℕ) (h p : ℕ) (plus : Bool) (own' : List ℕ) : Type 0 where
  pub bits : (k r : ℕ) → r < pair_limit → holds own' k r ≡ (if eqb k h && eqb r p then plus otherwise holds own k r)
  pub keeps : (ups slots : List ℕ) (T : Ties) → KeepsTies ups own slots T → KeepsTies ups own' slots (edited_ties plus (some (value h p)) T)

-- slot q, which was free, gets the holder number k, which no slot had
pub record SlotGiven (slots : List ℕ) (q k : ℕ) (slots' : List ℕ) : Type 0 where
  pub words : slots' ≡ set slots q k
  pub keeps : (ups own : List ℕ) (T : Ties) → KeepsTies ups own slots T → in_use (length ups) slots q ≡ false
      → ((r : ℕ) → r < group_limit → get_or slots r 0 ≡ k → ⊥) → KeepsTies ups own slots' T
