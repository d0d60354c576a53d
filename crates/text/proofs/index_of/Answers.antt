-- `text::index_of` meets its contract: no byte before the place is b.
use Prim.Native.Nat.{ℕ, ◌≤◌, ◌<◌, ◌+◌}
use mathlib.Core.Path.{◌≡◌, ap, subst, ◌∙◌}
use mathlib.Core.Bool.{true, not}
use mathlib.Core.List.{◌∷◌, ◌++◌}
use mathlib.Core.Option.{some}
use native.Mathlib.Numerals.{add-one}
use native.Mathlib.Omega.{arith}
use borrow.Author.Tests.{tests, ne_eqb}
use lib.ListN.{length, get_or, take, drop}
use lib.Seq.{get_or-take, length-take-le, split_at, take_all}
use Rattle.std.proofs.Common.{rules, Option, Some, None}
use Rattle.std.specs.List.{AllWithin, HoldsAt}
use Rattle.std.specs.Option.{MatchOption}
use Rattle.std.proofs.lemmas.Iterator.{IsFirst-from_position, YieldsList-from_slice}
use Rattle.model.specs.Bytes.{Bytes, cut}
use Rattle.model.proofs.Cuts.{isnt, lacks, cut-joined}
use Rattle.text.proofs.LoopPlaces.{cut-lacks, all-places}
use Rattle.text.specs.Parts.{FirstAt}
use Rattle.text.proofs.index_of.Goals as goal

module _ (b : ℕ) (s : Bytes) where
  -- no byte before place n is b
  passed : (n : ℕ) → n ≤ length s → AllWithin (λ x. x ≡ b → ⊥) s 0 n → lacks b (take n s) ≡ true
  passed n h other =
      all-places (isnt b) (take n s) λ k l.
      let m = length-take-le n s h in
      ap (isnt b) (get_or-take n s k 0 (omega arith)) ∙ ap not (ne_eqb (get_or s k 0) b (other k 0 (omega arith) (omega arith)))

  first : (r : Option ℕ) → MatchOption r (AllWithin (λ x. x ≡ b → ⊥) s 0 (length s)) (λ i. (i < length s) × HoldsAt (λ x. x ≡ b) s i × AllWithin (λ x. x ≡ b → ⊥) s 0 i)
      → FirstAt b s r
  first None other = record { found = λ i e. cc; absent = λ _. cut-lacks b s (rw (take_all (length s) s (omega arith)) at (passed (length s) (omega arith) other)) }
  first (Some n) (h, e, other) =
      let j : s ≡ take n s ++ b ∷ drop (n + 1) s = split_at s n 0 h ∙ rw (e 0, add-one) in
      let here : (n < length s) × (cut b s ≡ some (take n s, drop (n + 1) s)) = (h, ap (cut b) j ∙ cut-joined b (take n s) (drop (n + 1) s) (passed n (omega arith) other)) in
      record { found = λ i e'. let z : n ≡ i = cc in subst (λ (k : ℕ). (k < length s) × (cut b s ≡ some (take k s, drop (k + 1) s))) z here; absent = λ e'. cc }

pub returns : goal.returns
returns c =
    first c.args.b c.args.s.now c.position.result
    (IsFirst-from_position _ _ _ (λ x. x ≡ c.args.b) (λ x. x ≡ c.args.b → ⊥) c.position.ensures.ran (YieldsList-from_slice c.args.s.now cc) (λ x q k. search (rules, tests)) (λ x q k. search (rules, tests)))
