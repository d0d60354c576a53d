-- `program::run` meets its contract: from every turn on, the run goes on that began at the start.
use Prim.Native.Nat.{◌-◌, ◌*◌, ◌≤◌}
use lib.ListN.{length}
use Rattle.values.specs.Operands.{lent}
use Rattle.program.proofs.Runs.{Running}
use Rattle.program.proofs.run.Given as goal

abbrev pub invariant-loop-at : goal.invariant-loop-at
invariant-loop-at l = (l.row ≤ 16 * l.at) × Running (lent l.code l.pairs l.session l.entries) l.rows l.w l.row l.at

abbrev pub decreases-loop-at : goal.decreases-loop-at
decreases-loop-at l = length l.code - l.at
