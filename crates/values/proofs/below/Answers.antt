-- `values::below` meets its contract. Assumes nothing.
use mathlib.Core.Bool.{true, false}
use mathlib.Core.Path.{sym, ap, ap₂, ◌∙◌}
use lib.Dec.{leb, ltb}
use Rattle.model.specs.Truth.{truth}
use Rattle.values.specs.Operands.{lent_by, operand_values}
use Rattle.values.specs.Compared.{order_of}
use Rattle.values.proofs.Compared.{not-ints, without-left, without-right, extreme-is, with-both, at-most, strictly}
use Rattle.values.proofs.below.Goals.{then-equal, else-equal}
use Rattle.values.proofs.below.Goals as goal

pub returns-then-low-ne-INT : goal.returns-then-low-ne-INT
returns-then-low-ne-INT c =
    let lend = lent_by c.args.lent.now in
    not-ints c.args.low.ty c.args.equal (operand_values lend c.args.low) (operand_values lend c.args.high) c.if-low-ne-INT.true

pub returns-in_default : goal.returns-in_default
returns-in_default c =
    let low = operand_values (lent_by c.args.lent.now) c.args.low in
    let high = operand_values (lent_by c.args.lent.now) c.args.high in
    without-left false low high (order_of c.args.low.ty c.args.equal low high) (sym c.in_default.is ∙ c.extreme_int.ensures)

pub returns-in_default-extreme_int : goal.returns-in_default-extreme_int
returns-in_default-extreme_int c =
    let low = operand_values (lent_by c.args.lent.now) c.args.low in
    let high = operand_values (lent_by c.args.lent.now) c.args.high in
    without-right true low high (order_of c.args.low.ty c.args.equal low high) (sym c.in_default-extreme_int.is ∙ c.extreme_int-2.ensures)

pub returns : goal.returns
returns c =
    let low = operand_values (lent_by c.args.lent.now) c.args.low in
    let high = operand_values (lent_by c.args.lent.now) c.args.high in
    let e = sym c.in-Some.is ∙ c.extreme_int.ensures in
    let f = sym c.in-Some-extreme_int.is ∙ c.extreme_int-2.ensures in
    let a = extreme-is false low c.in-Some.least e in
    let b = extreme-is true high c.in-Some-extreme_int.greatest f in
    c.tested.ensures
    ∙ elim c.if-equal.branch [
      | then-equal w ↦ ap truth (w.tested-is ∙ ap₂ leb a b) ∙ at-most c.args.low.ty c.args.equal low high c.if-low-ne-INT.false w.if-equal.true
      | else-equal w ↦ ap truth (w.tested-is ∙ ap₂ ltb a b) ∙ strictly c.args.low.ty c.args.equal low high c.if-low-ne-INT.false w.if-equal.false
    ]
    ∙ with-both low high (order_of c.args.low.ty c.args.equal low high) c.in-Some.least c.in-Some-extreme_int.greatest e f
