-- The forms of fields: what each reader of lines reads, as the code has it.
use Rattle.std.specs.Prelude.{ℕ, Option, IfSome, ◌≤◌, length, drop}
use Rattle.std.proofs.Math.Option as math
use Rattle.std.proofs.Math.Option.{some}
use Rattle.model.specs.Notation.{◌>>=◌}
use Rattle.model.specs.Bytes.{Bytes}
use Rattle.model.specs.Attributes.{Source, AtomType}
use Rattle.model.specs.Atoms.{Atom}
use Rattle.model.specs.Tokens.{tokens_of}
use Rattle.model.specs.Grammar.{read_policy}
use Rattle.model.specs.Lines.{Line, attr, atom, value, rule, read_attr, read_pair, read_two, read_value, read_rule}
use Rattle.codes.specs.Enums.{source_for, type_for}
use Rattle.text.specs.Packing.{packed_of}
use Rattle.text.specs.Values.{atom_value}
use Rattle.fields.specs.declared.AttrFields.{AttrFields}
use Rattle.fields.specs.declared.PairFields.{PairFields}
use Rattle.fields.specs.declared.TwoFields.{TwoFields}
use Rattle.fields.specs.declared.ValueFields.{ValueFields}
use Rattle.fields.specs.declared.RuleFields.{RuleFields}
use Rattle.fields.specs.Told.{Told}

-- "SRC,NAME,TYPE"
abbrev pub attr_numbers : Source × Bytes × AtomType → AttrFields
attr_numbers (s, n, t) = record { source = source_for s; ty = type_for t; name = packed_of n }

abbrev pub AttrTold : Bytes → Option AttrFields → Type 0
AttrTold f r = Told attr_numbers (λ (s, n, t). some (attr s n t)) (read_attr f) r

-- "SRC.NAME,ATOM"
abbrev pub pair_numbers : Source × Bytes × Atom → PairFields
pair_numbers (s, n, a) = record { source = source_for s; name = packed_of n; atom = atom_value a }

abbrev pub PairTold : Bytes → Option PairFields → Type 0
PairTold f r = Told pair_numbers (λ (s, n, a). some (atom s n a)) (read_pair f) r

-- "CHILD,PARENT" and "PARTY,GROUP": for a line of either key
abbrev pub two_numbers : Bytes × Bytes → TwoFields
two_numbers (a, b) = record { lower = packed_of a; upper = packed_of b }

abbrev pub TwoTold : Bytes → Option TwoFields → Type 0
TwoTold f r = (line : Bytes → Bytes → Line) → Told two_numbers (λ (a, b). some (line a b)) (read_two line f) r

-- "HOLDER,NAME,ATOM"
abbrev pub value_numbers : Bytes × Bytes × Atom → ValueFields
value_numbers (h, n, a) = record { holder = packed_of h; name = packed_of n; atom = atom_value a }

abbrev pub ValueTold : Bytes → Option ValueFields → Type 0
ValueTold f r = Told value_numbers (λ (h, n, a). some (value h n a)) (read_value f) r

-- "OP,POLICY": the operation's name, and the place where the policy starts, of which the rest of the reader is left
abbrev pub rule_numbers : Bytes × ℕ → RuleFields
rule_numbers (o, start) = record { operation = packed_of o; start = start }

abbrev pub rule_of : Bytes → Bytes → math.Option Line
rule_of operation p = do
  tokens ← tokens_of p
  policy ← read_policy tokens
  some (rule operation tokens)

pub record RuleTold (f : Bytes) (r : Option RuleFields) : Type 0 where
  pub fields : Told rule_numbers (λ (o, start). rule_of o (drop start f)) (read_rule f) r
  pub within : IfSome r (λ v. v.start ≤ length f)
