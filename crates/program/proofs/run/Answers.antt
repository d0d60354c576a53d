-- `program::run` meets its contract: from every turn on, the run goes on that began at the start.
use native.Mathlib.Omega.{arith}
use Rattle.program.proofs.Runs.{run-starts, run_ends}
use Rattle.program.proofs.run.Goals as goal

pub loop-at-init : goal.loop-at-init
loop-at-init c = (omega arith, run-starts _ _ _ c.fresh-w.ensures)

pub returns-then-kind-eq-END : goal.returns-then-kind-eq-END
returns-then-kind-eq-END c =
    run_ends _ _ c.loop-at.w c.loop-at.row c.loop-at.at c.loop-at.invariant.1 c.if-kind-eq-END.true c.verdict_of.result c.verdict_of.ensures
