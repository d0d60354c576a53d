-- 11 is answered exactly where a line would exceed a limit of the document. Assumes nothing.
use Prim.Native.Nat.{ℕ, ◌+◌, ◌≤◌}
use mathlib.Core.Path.{◌≡◌, ap, ◌∙◌}
use mathlib.Core.Logic.{⊎_elim, ◌↔◌}
use mathlib.Core.Bool.{Bool, true, false, ◌&&◌}
use mathlib.Core.List.{List, [], ◌∷◌, ◌++◌}
use mathlib.Core.Option.{Option, some}
use native.Mathlib.Omega.{arith}
use lib.ListN.{length, length-append}
use lib.Dec.{leb}
use borrow.Author.Tests.{leb-true, leb-false}
use Rattle.model.specs.Notation.{if◌then◌otherwise◌}
use Rattle.model.specs.Limits.{attribute_limit, operation_limit, pair_limit, holder_limit, holder_numbers, group_limit, rule_limit}
use Rattle.model.specs.Numbers as refusal
use Rattle.model.specs.Bytes.{Bytes}
use Rattle.model.specs.Keys.{Key}
use Rattle.model.specs.Lines.{Line, attr, op, atom, holder, parent, member, value, rule, read_line}
use Rattle.model.specs.Declarations.{Declarations, Sort, Holder, is_group, groups, holder_numbers_of}
use Rattle.model.specs.State.{State, declare, with_holder}
use Rattle.model.specs.Refusals.{full, line_refusal}
use Rattle.model.specs.Standing.{Standing}
use Rattle.model.proofs.WordTables.{false-is-true}
use Rattle.model.proofs.Options.{parts, is_some}
use Rattle.model.proofs.Lists.{true-or-false, or_cases, or-none}
use Rattle.model.proofs.Refusals.{line-met}
use Rattle.model.proofs.Growing.{one-longer}
use Rattle.model.proofs.Numbered.{length_inserted, count-inserted}
use Rattle.model.proofs.Standing.{numbers-length}

-- attributes "At most 32", operations "at most 8", pairs "At most 256", holders but admin "at most 255, of which at most 64 groups", rules "at most 32"
pub record WithinLimits (D : Declarations) : Type 0 where
  pub attributes-within : length D.attributes ≤ attribute_limit
  pub operations-within : length D.operations ≤ operation_limit
  pub pairs-within : length D.pairs ≤ pair_limit
  pub holders-within : length D.holders ≤ 1 + holder_limit D.edition
  pub groups-within : groups D ≤ group_limit
  pub rules-within : length D.rules ≤ rule_limit

-- ---- one thing more in a list

module _ {A : Type 0} (limit : ℕ) (xs : List A) (x : A) where
  one-over : leb limit (length xs) ≡ true → length (xs ++ x ∷ []) ≤ limit → ⊥
  one-over e h = omega (arith, length-append xs (x ∷ []), leb-true limit (length xs) e)

-- a holder more is a group more, or none
groups-last : (D : Declarations) (h : Holder) → groups (with_holder h D) ≡ groups D + (if is_group h.sort then 1 otherwise 0)
unfolding groups
groups-last D h = count-inserted (λ x. x.number) h (λ x. is_group x.sort) D.holders

group-over : (D : Declarations) (s : Sort) (n : Bytes) → (is_group s && leb group_limit (groups D)) ≡ true → groups (declare (holder s n) D) ≤ group_limit → ⊥
group-over D s n e h =
    let (g, f) = parts (is_group s) (leb group_limit (groups D)) e in
    let more : groups (declare (holder s n) D) ≡ groups D + 1 = groups-last D _ ∙ ap (λ (b : Bool). groups D + (if b then 1 otherwise 0)) g in
    omega (arith, leb-true group_limit (groups D) f)

group-within : (D : Declarations) (s : Sort) (n : Bytes) → groups D ≤ group_limit → (is_group s && leb group_limit (groups D)) ≡ false
    → groups (declare (holder s n) D) ≤ group_limit
group-within D s n w e = go (is_group s) e (groups-last D (record { number = length D.holders; sort = s; name = n }))
  where
    go : (b : Bool) → (b && leb group_limit (groups D)) ≡ false → groups (declare (holder s n) D) ≡ groups D + (if b then 1 otherwise 0)
        → groups (declare (holder s n) D) ≤ group_limit
    go true e q = omega (arith, leb-false group_limit (groups D) e)
    go false e q = omega arith

-- a holder more is one longer
holder-over : (D : Declarations) (s : Sort) (n : Bytes) → leb (holder_numbers D.edition) (length (holder_numbers_of D)) ≡ true → length (declare (holder s n) D).holders ≤ 1 + holder_limit D.edition → ⊥
holder-over D s n e h = omega (arith, numbers-length D, leb-true (holder_numbers D.edition) (length (holder_numbers_of D)) e, length_inserted (λ x. x.number) (record { number = length D.holders; sort = s; name = n }) D.holders)

holder-within : (D : Declarations) (s : Sort) (n : Bytes) → leb (holder_numbers D.edition) (length (holder_numbers_of D)) ≡ false → length (declare (holder s n) D).holders ≤ 1 + holder_limit D.edition
holder-within D s n e = omega (arith, numbers-length D, leb-false (holder_numbers D.edition) (length (holder_numbers_of D)) e, length_inserted (λ x. x.number) (record { number = length D.holders; sort = s; name = n }) D.holders)

-- ---- 11

full-over : (D : Declarations) (l : Line) → full D l ≡ true → WithinLimits (declare l D) → ⊥
full-over D (attr s n t) e w = one-over attribute_limit D.attributes _ e w.attributes-within
full-over D (op n) e w = one-over operation_limit D.operations n e w.operations-within
full-over D (atom s n a) e w = one-over pair_limit D.pairs _ e w.pairs-within
full-over D (holder s n) e w =
    ⊎_elim (λ h. holder-over D s n h w.holders-within) (λ g. group-over D s n g w.groups-within)
    (or_cases (leb (holder_numbers D.edition) (length (holder_numbers_of D))) (is_group s && leb group_limit (groups D)) e)
full-over D (parent c g) e w = false-is-true e
full-over D (member p g) e w = false-is-true e
full-over D (value h n a) e w = false-is-true e
full-over D (rule o ts) e w = one-over rule_limit D.rules _ e w.rules-within

within : {D : Declarations} → length D.attributes ≤ attribute_limit → length D.operations ≤ operation_limit → length D.pairs ≤ pair_limit
    → length D.holders ≤ 1 + holder_limit D.edition → groups D ≤ group_limit → length D.rules ≤ rule_limit → WithinLimits D
within a o p h g r = record {
  attributes-within = a;
  operations-within = o;
  pairs-within = p;
  holders-within = h;
  groups-within = g;
  rules-within = r;
}

-- a line that does not meet 11 stays within the limits
pub still-within : (D : Declarations) (l : Line) → WithinLimits D → full D l ≡ false → WithinLimits (declare l D)
unfolding groups
still-within D (attr s n t) w e =
    within (one-longer attribute_limit D.attributes _ e) w.operations-within w.pairs-within w.holders-within w.groups-within w.rules-within
still-within D (op n) w e =
    within w.attributes-within (one-longer operation_limit D.operations n e) w.pairs-within w.holders-within w.groups-within w.rules-within
still-within D (atom s n a) w e =
    within w.attributes-within w.operations-within (one-longer pair_limit D.pairs _ e) w.holders-within w.groups-within w.rules-within
still-within D (holder s n) w e =
    let (h, g) = or-none (leb (holder_numbers D.edition) (length (holder_numbers_of D))) (is_group s && leb group_limit (groups D)) e in
    within w.attributes-within w.operations-within w.pairs-within (holder-within D s n h)
    (group-within D s n w.groups-within g) w.rules-within
still-within D (parent c g) w e = w
still-within D (member p g) w e = w
still-within D (value h n a) w e = w
still-within D (rule o ts) w e =
    within w.attributes-within w.operations-within w.pairs-within w.holders-within w.groups-within (one-longer rule_limit D.rules _ e)

-- a line meets 11 exactly when the declarations with its own would exceed a limit
pub full-exactly : (D : Declarations) (l : Line) → WithinLimits D → (full D l ≡ true) ↔ (WithinLimits (declare l D) → ⊥)
full-exactly D l w = (full-over D l, λ over. ⊎_elim (λ e. e) (λ e. absurd (over (still-within D l w e))) (true-or-false (full D l)))

-- so it is with every line of a file that is answered 11
pub line-full : (S : State) (previous : Option Key) (line : Bytes) → line_refusal S previous line ≡ refusal.full
    → (l : Line) × (read_line line ≡ some l) × (WithinLimits (declare l S.declared) → ⊥)
line-full S previous line e =
    let (l, r, f) = is_some (read_line line) (full S.declared) (line-met S previous line 11 e (λ z. omega arith)) in
    (l, r, full-over S.declared l f)

-- every state in a ledger stands, so it is within the limits
pub standing-within : {S : State} → Standing S → WithinLimits S.declared
standing-within {S} standing =
    let well = standing.declarations in
    within well.attributes.few well.operations.few well.pairs.few (omega (arith, numbers-length S.declared, well.holders.few)) well.holders.few-groups well.rules.few
