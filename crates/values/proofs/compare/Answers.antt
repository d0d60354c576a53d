-- `values::compare` meets its contract: a way for each operator, `=` and IN in one. Assumes nothing.
use native.Mathlib.Omega.{arith}
use Rattle.values.specs.Operands.{lent}
use Rattle.values.proofs.Compared.{types-differ, by-equality, by-inequality, by-subset, by_less, by-at-most, by-greater, by-at-least}
use Rattle.values.proofs.compare.Goals as goal

pub returns-then-left-right : goal.returns-then-left-right
returns-then-left-right c =
    types-differ (lent c.args.code.now c.args.pairs.now c.args.session.now c.args.entries.now) c.args.operator c.args.left c.args.right c.if-left-right.true

pub returns-in-18 : goal.returns-in-18
returns-in-18 c =
    by-inequality (lent c.args.code.now c.args.pairs.now c.args.session.now c.args.entries.now) c.args.operator c.args.left c.args.right c.if-left-right.false c.none_found.result c.in-18.is c.none_found.ensures

pub returns-in-19 : goal.returns-in-19
returns-in-19 c =
    by-subset (lent c.args.code.now c.args.pairs.now c.args.session.now c.args.entries.now) c.args.operator c.args.left c.args.right c.if-left-right.false c.none_found-in-19.result c.in-19.is c.none_found-in-19.ensures

pub returns-in-20 : goal.returns-in-20
returns-in-20 c =
    by_less (lent c.args.code.now c.args.pairs.now c.args.session.now c.args.entries.now) c.args.operator c.args.left c.args.right c.if-left-right.false c.below.result c.in-20.is c.below.ensures

pub returns-in-21 : goal.returns-in-21
returns-in-21 c =
    by-at-most (lent c.args.code.now c.args.pairs.now c.args.session.now c.args.entries.now) c.args.operator c.args.left c.args.right c.if-left-right.false c.below-in-21.result c.in-21.is c.below-in-21.ensures

pub returns-in-22 : goal.returns-in-22
returns-in-22 c =
    by-greater (lent c.args.code.now c.args.pairs.now c.args.session.now c.args.entries.now) c.args.operator c.args.left c.args.right c.if-left-right.false c.below-in-22.result c.in-22.is c.below-in-22.ensures

pub returns-in-23 : goal.returns-in-23
returns-in-23 c =
    by-at-least (lent c.args.code.now c.args.pairs.now c.args.session.now c.args.entries.now) c.args.operator c.args.left c.args.right c.if-left-right.false c.below-in-23.result c.in-23.is c.below-in-23.ensures

pub returns-in-16-to-17 : goal.returns-in-16-to-17
returns-in-16-to-17 c =
    by-equality (lent c.args.code.now c.args.pairs.now c.args.session.now c.args.entries.now) c.args.operator c.args.left c.args.right c.if-left-right.false c.some_found.result (omega arith) (omega arith) c.some_found.ensures
