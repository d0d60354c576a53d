-- The tie of the fields of a line: none where they read as no line, else that of the names that they read as. Assumes nothing.
use Rattle.std.proofs.Common.{◌≡◌, sym, ap, ◌∙◌, ℕ, true, ◌&&◌, List, Some, None, Result, Err, arith}
use Rattle.std.proofs.Math.Option as math
use Rattle.std.proofs.Math.Option.{none, some}
use Rattle.model.specs.Notation.{◌>>=◌}
use Rattle.model.specs.Bytes.{Bytes}
use Rattle.model.specs.Names.{is_name}
use Rattle.model.specs.Atoms.{is_atom}
use Rattle.model.specs.Keys as keys
use Rattle.model.specs.Keys.{is_tie_key}
use Rattle.model.specs.Lines.{Line, read_two, read_fields}
use Rattle.model.specs.State as state
use Rattle.model.specs.Refusals.{first}
use Rattle.model.proofs.WordTables.{false-is-true}
use Rattle.model.proofs.Options.{parts}
use Rattle.model.proofs.Lines.{fields-said}
use Rattle.codes.specs.declared.Refusal.{Refusal}
use Rattle.codes.specs.declared.Refusal.TheVariants.{Malformed}
use Rattle.codes.specs.Codes.{key_code}
use Rattle.codes.specs.Enums.{number_in}
use Rattle.text.specs.Packing.{packed_of}
use Rattle.fields.specs.declared.TwoFields.{TwoFields}
use Rattle.fields.specs.declared.ValueFields.{ValueFields}
use Rattle.fields.specs.Forms.{TwoTold, ValueTold}
use Rattle.fields.proofs.ToldParts.{unread, read_as}
use Rattle.tielines.specs.declared.Tie.{Tie}
use Rattle.tielines.specs.TieReading.{TieOfLine, TwoNamed, ValueNamed, field_tests, FieldsTie, KeyTie}
use Rattle.tielines.proofs.TieLines.{line-tie-fits}

-- ---- keys

-- what holds of the keys of ties
of-tie-keys : (P : keys.Key → Type 0) → P keys.Key.parent → P keys.Key.member → P keys.Key.value → (k : keys.Key) → is_tie_key k ≡ true → P k
of-tie-keys P parent member value keys.Key.attr i = false-is-true i
of-tie-keys P parent member value keys.Key.op i = false-is-true i
of-tie-keys P parent member value keys.Key.atom i = false-is-true i
of-tie-keys P parent member value keys.Key.ugroup i = false-is-true i
of-tie-keys P parent member value keys.Key.ogroup i = false-is-true i
of-tie-keys P parent member value keys.Key.user i = false-is-true i
of-tie-keys P parent member value keys.Key.object i = false-is-true i
of-tie-keys P parent member value keys.Key.parent i = parent
of-tie-keys P parent member value keys.Key.member i = member
of-tie-keys P parent member value keys.Key.value i = value
of-tie-keys P parent member value keys.Key.rule i = false-is-true i

-- ---- fields

module _ {book : List ℕ} {r : Result Tie Refusal} where
  -- fields that read as no line, and those that read as one
  no_line : {l : math.Option Line} → l ≡ none → r ≡ Err Malformed → FieldsTie book l r
  no_line e z S code standing held = record {
    refusal = ap number_in z ∙ sym (ap (λ (o : math.Option Line). first (field_tests o S)) e);
    tie = λ t w. absurd (cc);
    fits = λ t w. absurd (cc);
  }

  as_line : {l : math.Option Line} {read : Line} → l ≡ some read → TieOfLine book read r → FieldsTie book l r
  as_line {read = read} e named S code standing held = record {
    refusal = (named S code standing held).0 ∙ sym (ap (λ (o : math.Option Line). first (field_tests o S)) e);
    tie = λ t z. ap (λ (o : math.Option Line). o >>= state.tie_of S.declared) e ∙ (named S code standing held).1 t z;
    fits = λ t z. line-tie-fits standing held read r t named z;
  }

  module _ {k : ℕ} (f : Bytes) where
    -- HOLDER,NAME,ATOM
    module _ (here : k ≡ key_code keys.Key.value) where
      value-key : FieldsTie book (read_fields keys.Key.value f) r → KeyTie book k f r
      value-key told = of-tie-keys (λ x. k ≡ key_code x → FieldsTie book (read_fields x f) r) (λ e. absurd (omega arith)) (λ e. absurd (omega arith)) (λ e. told)

      pub value-unread : ValueTold f None → r ≡ Err Malformed → KeyTie book k f r
      value-unread told z = value-key (no_line (unread told) z)

      pub value_read : (v : ValueFields) → ValueTold f (Some v) → ValueNamed book v.holder v.name v.atom r → KeyTie book k f r
      value_read v told named =
          let ((h, m, a), e, g) = read_as told in
          let (front, atomic) = parts (is_name h && is_name m) (is_atom a) (fields-said keys.Key.value f (Line.value h m a) e).0 in
          let (p, q) = parts (is_name h) (is_name m) front in
          value-key (as_line e (named h m a p q atomic (ap (λ (v : ValueFields). v.holder) (sym g)) (ap (λ (v : ValueFields). v.name) (sym g))
          (ap (λ (v : ValueFields). v.atom) (sym g))))

    -- CHILD,PARENT and PARTY,GROUP
    module _ (other : k ≡ key_code keys.Key.value → ⊥) where
      two-keys : (k ≡ key_code keys.Key.parent → FieldsTie book (read_two Line.parent f) r) → (k ≡ key_code keys.Key.member → FieldsTie book (read_two Line.member f) r) → KeyTie book k f r
      two-keys parent member = of-tie-keys (λ x. k ≡ key_code x → FieldsTie book (read_fields x f) r) parent member (λ e. absurd (other e))

      pub two-unread : TwoTold f None → r ≡ Err Malformed → KeyTie book k f r
      two-unread told z = two-keys (λ e. no_line (unread (told Line.parent)) z) (λ e. no_line (unread (told Line.member)) z)

      pub two-read : (v : TwoFields) → TwoTold f (Some v) → TwoNamed book k v.lower v.upper r → KeyTie book k f r
      two-read v told named = two-keys
          (λ e. one_of Line.parent (λ a b g. (fields-said keys.Key.parent f (Line.parent a b) g).0) (λ a b p q v w. (named a b p q v w).0 e))
          (λ e. one_of Line.member (λ a b g. (fields-said keys.Key.member f (Line.member a b) g).0) (λ a b p q v w. (named a b p q v w).1 e))
        where
          one_of : (line : Bytes → Bytes → Line) → ((a b : Bytes) → read_two line f ≡ some (line a b) → (is_name a && is_name b) ≡ true)
              → ((a b : Bytes) → is_name a ≡ true → is_name b ≡ true → packed_of a ≡ v.lower → packed_of b ≡ v.upper → TieOfLine book (line a b) r)
              → FieldsTie book (read_two line f) r
          one_of line formed is =
              let ((a, b), e, g) = read_as (told line) in
              let (p, q) = parts (is_name a) (is_name b) (formed a b e) in
              as_line e (is a b p q (ap (λ (v : TwoFields). v.lower) (sym g)) (ap (λ (v : TwoFields). v.upper) (sym g)))
