-- `values::lacks` meets its contract. Assumes nothing.
use native.Mathlib.Omega.{arith}
use mathlib.Core.Path.{◌∙◌}
use Rattle.values.proofs.Constants.{constants-find, as-str, as_int}
use Rattle.values.proofs.Lacking.{none-so, no-pair, no-entry, no-constant}
use Rattle.values.proofs.lacks.Goals as goal

pub returns-in-0 : goal.returns-in-0
returns-in-0 c pairs =
    none-so c.pair_number.result c.is_none.result c.is_none.ensures
    ∙ no-pair c.args.code.now c.args.session.now c.args.entries.now c.args.operand c.in-0.is c.pair_number.result c.pair_number.ensures pairs

pub returns-in-1 : goal.returns-in-1
returns-in-1 c pairs =
    none-so c.entry_number.result c.is_none-in-1.result c.is_none-in-1.ensures
    ∙ no-entry c.args.code.now c.args.session.now c.args.entries.now c.args.operand c.in-1.is c.entry_number.result c.entry_number.ensures pairs

pub returns-in_default : goal.returns-in_default
returns-in_default c pairs =
    none-so c.str_at.result c.is_none-in_default.result c.is_none-in_default.ensures
    ∙ no-constant c.args.code.now c.args.session.now c.args.entries.now c.args.operand (λ z. omega arith) (λ z. omega arith) c.str_at.result
    (constants-find c.args.operand.ty c.args.code.now c.args.operand.end c.args.operand.start c.str_at.result
    (c.str_at.ensures ∙ as-str c.args.operand.ty c.args.code.now c.args.operand.end c.args.operand.start c.if-ty-eq-STR.true)) pairs

pub returns-in_default-2 : goal.returns-in_default-2
returns-in_default-2 c pairs =
    none-so c.int_at.result c.is_none-in_default-2.result c.is_none-in_default-2.ensures
    ∙ no-constant c.args.code.now c.args.session.now c.args.entries.now c.args.operand (λ z. omega arith) (λ z. omega arith) c.int_at.result
    (constants-find c.args.operand.ty c.args.code.now c.args.operand.end c.args.operand.start c.int_at.result
    (c.int_at.ensures ∙ as_int c.args.operand.ty c.args.code.now c.args.operand.end c.args.operand.start c.if-ty-eq-STR.false)) pairs
