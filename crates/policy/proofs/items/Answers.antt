-- `policy::items` meets its contract. The loop's invariant: what is read from its place on tells what is read from the first on. Assumes nothing.
use native.Mathlib.Omega.{arith}
use Rattle.policy.proofs.VarsInCode.{items-short, items-other, items-off, no-constant, last-constant, constant-passed}
use Rattle.policy.proofs.items.Goals as goal

pub returns-then-code-at : goal.returns-then-code-at
returns-then-code-at c =
    no-constant c.args.code.now c.args.kind c.args.first c.loop-at.at c.loop-at.atoms c.loop-at.invariant
    (items-other c.args.code.now c.args.kind c.loop-at.at c.if-code-at.true)

pub returns-in-8 : goal.returns-in-8
returns-in-8 c =
    last-constant c.args.code.now c.args.kind c.args.first c.loop-at.at c.loop-at.atoms c.loop-at.invariant c.if-code-at.false c.constant_end-end.result c.kind_at.result
    _ c.constant_end-end.ensures c.kind_at.ensures (omega (arith, c.min-atoms.ensures)) c.in-8.is

pub loop-at-preserved : goal.loop-at-preserved
loop-at-preserved c =
    constant-passed c.args.code.now c.args.kind c.args.first c.loop-at.at c.loop-at.atoms c.loop-at.invariant c.if-code-at.false c.constant_end-end.result c.kind_at.result
    _ c.constant_end-end.ensures c.kind_at.ensures (omega (arith, c.min-atoms.ensures)) c.in-9.is

pub returns-in_default : goal.returns-in_default
returns-in_default c =
    no-constant c.args.code.now c.args.kind c.args.first c.loop-at.at c.loop-at.atoms c.loop-at.invariant
    (items-off c.args.code.now c.args.kind c.loop-at.at c.if-code-at.false c.constant_end-end.result c.kind_at.result c.constant_end-end.ensures
    c.kind_at.ensures (λ k. omega arith) (λ k. omega arith))

pub returns : goal.returns
returns c =
    no-constant c.args.code.now c.args.kind c.args.first c.loop-at.at c.loop-at.atoms c.loop-at.invariant
    (items-short c.args.code.now c.args.kind c.loop-at.at c.loop-at-test.false)
