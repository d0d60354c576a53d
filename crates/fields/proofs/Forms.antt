-- The forms of fields, step by step as the code reads them.
use Rattle.std.proofs.Common.{◌≡◌, refl, sym, subst, ℕ, ◌+◌, Option, Some, None, length}
use Rattle.std.proofs.Math.Option as math
use Rattle.std.proofs.Math.Option.{none, some}
use Rattle.model.specs.Notation.{◌>>=◌}
use Rattle.model.specs.Bytes.{Bytes, cut}
use Rattle.model.specs.Attributes.{read_source, read_type}
use Rattle.model.specs.Atoms.{read_atom}
use Rattle.model.specs.Names.{read_name}
use Rattle.model.specs.Lines.{read_attr, read_pair, read_two, read_value, read_rule}
use Rattle.codes.specs.Enums.{told_by, source_for, type_for}
use Rattle.text.specs.Packing.{packed_of}
use Rattle.text.specs.Values.{atom_value}
use Rattle.fields.specs.declared.AttrFields.{AttrFields}
use Rattle.fields.specs.declared.PairFields.{PairFields}
use Rattle.fields.specs.declared.TwoFields.{TwoFields}
use Rattle.fields.specs.declared.ValueFields.{ValueFields}
use Rattle.fields.specs.declared.RuleFields.{RuleFields}
use Rattle.fields.specs.Told.{Told}
use Rattle.fields.specs.Forms.{AttrTold, PairTold, TwoTold, ValueTold, RuleTold}
use Rattle.fields.proofs.CutParts.{cut_within, cut_behind}

infixl 1 ◌then◌
abbrev pub ◌then◌ : {A B : Type 0} → Option A → (A → Option B) → Option B
None then f = None
Some a then f = f a

module _ {A L R : Type 0} {numbers : A → R} {line : A → math.Option L} {r : Option R} where
  -- one step of a reader: what is read there, and the rest
  pub step : {X Y : Type 0} (f : X → Y) (o : math.Option X) {next : X → math.Option L} (after : Y → Option R) → r ≡ (told_by f o then after)
      → ((x : X) → r ≡ after (f x) → Told numbers line (next x) r) → Told numbers line (o >>= next) r
  step f none after e rest = record { parts = none; read = refl; told = e }
  step f (some x) after e rest = rest x e

  given : (a : A) → r ≡ Some (numbers a) → Told numbers line (line a) r
  given a e = record { parts = some a; read = refl; told = e }

-- what stands before the first byte b, and what behind it
abbrev pub parts_at : ℕ → Bytes → Option (Bytes × Bytes)
parts_at b s = told_by (λ p. p) (cut b s)

-- SRC,NAME,TYPE
abbrev pub attr_in : Bytes → Option AttrFields
attr_in f =
    parts_at 44 f then λ (s, rest). parts_at 44 rest then λ (n, t).
    told_by source_for (read_source s) then λ source. told_by packed_of (read_name n) then λ name. told_by type_for (read_type t) then λ ty.
    Some (record { source = source; ty = ty; name = name })

pub attr_told : (f : Bytes) {r : Option AttrFields} → r ≡ attr_in f → AttrTold f r
unfolding read_attr
attr_told f e =
    step (λ p. p) (cut 44 f) _ e λ (s, rest) e. step (λ p. p) (cut 44 rest) _ e λ (n, t) e.
    step source_for (read_source s) _ e λ x e. step packed_of (read_name n) _ e λ y e. step type_for (read_type t) _ e λ z e.
    given (x, y, z) e

-- SRC.NAME,ATOM
abbrev pub pair_in : Bytes → Option PairFields
pair_in f =
    parts_at 44 f then λ (a, v). parts_at 46 a then λ (s, n).
    told_by source_for (read_source s) then λ source. told_by packed_of (read_name n) then λ name. told_by atom_value (read_atom v) then λ atom.
    Some (record { source = source; name = name; atom = atom })

pub pair_told : (f : Bytes) {r : Option PairFields} → r ≡ pair_in f → PairTold f r
unfolding read_pair
pair_told f e =
    step (λ p. p) (cut 44 f) _ e λ (a, v) e. step (λ p. p) (cut 46 a) _ e λ (s, n) e.
    step source_for (read_source s) _ e λ x e. step packed_of (read_name n) _ e λ y e. step atom_value (read_atom v) _ e λ z e.
    given (x, y, z) e

-- CHILD,PARENT and PARTY,GROUP
abbrev pub two_in : Bytes → Option TwoFields
two_in f =
    parts_at 44 f then λ (a, b). told_by packed_of (read_name a) then λ lower. told_by packed_of (read_name b) then λ upper.
    Some (record { lower = lower; upper = upper })

pub two_told : (f : Bytes) {r : Option TwoFields} → r ≡ two_in f → TwoTold f r
unfolding read_two
two_told f e line =
    step (λ p. p) (cut 44 f) _ e λ (a, b) e. step packed_of (read_name a) _ e λ x e. step packed_of (read_name b) _ e λ y e.
    given (x, y) e

-- HOLDER,NAME,ATOM
abbrev pub value_in : Bytes → Option ValueFields
value_in f =
    parts_at 44 f then λ (h, rest). parts_at 44 rest then λ (n, v).
    told_by packed_of (read_name h) then λ holder. told_by packed_of (read_name n) then λ name. told_by atom_value (read_atom v) then λ atom.
    Some (record { holder = holder; name = name; atom = atom })

pub value_told : (f : Bytes) {r : Option ValueFields} → r ≡ value_in f → ValueTold f r
unfolding read_value
value_told f e =
    step (λ p. p) (cut 44 f) _ e λ (h, rest) e. step (λ p. p) (cut 44 rest) _ e λ (n, v) e.
    step packed_of (read_name h) _ e λ x e. step packed_of (read_name n) _ e λ y e. step atom_value (read_atom v) _ e λ z e.
    given (x, y, z) e

-- OP,POLICY
abbrev pub rule_in : Bytes → Option RuleFields
rule_in f = parts_at 44 f then λ (o, p). told_by packed_of (read_name o) then λ operation. Some (record { operation = operation; start = length o + 1 })

pub rule_told : (f : Bytes) {r : Option RuleFields} → r ≡ rule_in f → RuleTold f r
unfolding read_rule
rule_told f e = subst (RuleTold f) (sym e) (go (cut 44 f) refl)
  where
    named : {o p : Bytes} → cut 44 f ≡ some (o, p) → (n : math.Option Bytes) → read_name o ≡ n
        → RuleTold f (told_by packed_of n then λ operation. Some (record { operation = operation; start = length o + 1 }))
    named c none n = record { fields = record { parts = none; read = rw (c, n); told = refl }; within = tt }
    named {o} {p} c (some x) n = record {
      fields = record { parts = some (x, length o + 1); read = rw (c, n, ← cut_behind 44 f o p c); told = refl };
      within = cut_within 44 f o p c;
    }

    go : (o : math.Option (Bytes × Bytes)) → cut 44 f ≡ o
        → RuleTold f (told_by (λ p. p) o then λ (o, p). told_by packed_of (read_name o) then λ operation. Some (record { operation = operation; start = length o + 1 }))
    go none c = record { fields = record { parts = none; read = rw c; told = refl }; within = tt }
    go (some (o, p)) c = named c (read_name o) refl
