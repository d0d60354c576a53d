-- `compile::compile` meets its contract: at each place the rows before it are written, and a run that goes on from there is one from the start.
use mathlib.Core.Path.{refl, ◌∙◌}
use native.Mathlib.Omega.{arith}
use Rattle.compile.proofs.Compiling.{compile-starts, compile-ends, compile-goes-on, compile-out}
use Rattle.compile.proofs.compile.Goals as goal

pub loop-at-init : goal.loop-at-init
loop-at-init c = (refl, omega arith, compile-starts _ _ _)

pub returns-then-kind-eq-END : goal.returns-then-kind-eq-END
returns-then-kind-eq-END c =
    (compile-ends _ _ c.loop-at.rows c.loop-at.row c.loop-at.at c.loop-at.invariant.2 c.if-kind-eq-END.true, c.loop-at.invariant.0)

pub loop-at-preserved : goal.loop-at-preserved
loop-at-preserved c = (
  c.token-next.ensures.long ∙ c.loop-at.invariant.0,
  omega (arith, c.next_row-row.ensures.1, c.token-next.ensures.ahead, c.loop-at.invariant.1),
  compile-goes-on _ _ c.loop-at.rows c.loop-at.row c.loop-at.at c.loop-at.invariant.2 c.requires.1 c.if-kind-eq-END.false _ c.token-next.result c.token-next.ensures c.next_row-row.result c.next_row-row.ensures.0,
)

pub returns : goal.returns
returns c =
    (compile-out _ _ c.loop-at.rows c.loop-at.row c.loop-at.at c.loop-at.invariant.2 (omega arith), c.loop-at.invariant.0)
