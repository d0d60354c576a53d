-- `values::attribute` meets its contract. Assumes nothing.
use Prim.Native.Nat.{ℕ}
use native.Mathlib.Omega.{arith}
use mathlib.Core.Path.{ap, ◌∙◌}
use Rattle.values.proofs.AttributeOperands.{no_number, no_row, in_words, in-entries}
use Rattle.values.specs.Operands.{operand}
use Rattle.values.proofs.attribute.Goals.{in-1-to-3, in_default}
use Rattle.values.proofs.attribute.Goals as goal

pub returns-then-k-ge-ATTRIBUTES : goal.returns-then-k-ge-ATTRIBUTES
returns-then-k-ge-ATTRIBUTES c = c.no_values.ensures ∙ no_number c.args.attributes.now c.args.k c.if-k-ge-ATTRIBUTES.true

pub returns-in-0 : goal.returns-in-0
returns-in-0 c = c.no_values-in-0.ensures ∙ no_row c.args.attributes.now c.args.k c.if-k-ge-ATTRIBUTES.false c.in-0.is

pub returns : goal.returns
returns c = elim c.if-this-lt4.branch [
  | in-1-to-3 w ↦ ap (λ (p : ℕ). operand c.type_of.result p c.args.k 0) w.place-is
      ∙ in_words c.args.attributes.now c.args.k c.if-k-ge-ATTRIBUTES.false (λ z. omega arith) (omega arith) c.type_of.result c.type_of.ensures
  | in_default w ↦ ap (λ (p : ℕ). operand c.type_of.result p c.args.k 0) w.place-is
      ∙ in-entries c.args.attributes.now c.args.k c.if-k-ge-ATTRIBUTES.false (λ z. omega arith) (omega arith) c.type_of.result c.type_of.ensures
]
