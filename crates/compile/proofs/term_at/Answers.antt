-- `compile::term_at` meets its contract. Assumes nothing.
use native.Mathlib.Omega.{arith}
use Rattle.compile.proofs.Leaves.{bare-term, alone-term, compared-term, with-operands}
use Rattle.compile.proofs.term_at.Goals as goal

pub returns-in_default : goal.returns-in_default
returns-in_default c =
    with-operands c.args.code.now c.args.attributes.now c.args.at _ _ c.no_values.ensures c.no_values-in_default.ensures
    (bare-term c.args.code.now c.args.attributes.now c.args.at c.args.kind c.requires.1 c.in_default.ensures)

pub returns-in-Some-second_var : goal.returns-in-Some-second_var
returns-in-Some-second_var c =
    with-operands c.args.code.now c.args.attributes.now c.args.at _ _ c.operand.ensures c.operand-in-Some-second_var.ensures
    (compared-term c.args.code.now c.args.attributes.now c.args.at (omega arith) c.in-Some.left c.in-Some.ensures
    c.in-Some-second_var.right c.in-Some-second_var.ensures c.kind_at.result c.kind_at.ensures)

pub returns-in-None : goal.returns-in-None
returns-in-None c =
    with-operands c.args.code.now c.args.attributes.now c.args.at _ _ c.operand-in-None.ensures c.no_values-in-None.ensures
    (alone-term c.args.code.now c.args.attributes.now c.args.at (omega arith) c.in-Some.left c.in-Some.ensures c.in-None.ensures)
