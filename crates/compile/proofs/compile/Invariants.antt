-- `compile::compile` meets its contract: at each place the rows before it are written, and a run that goes on from there is one from the start.
use Prim.Native.Nat.{◌-◌, ◌*◌, ◌≤◌}
use mathlib.Core.Path.{◌≡◌}
use lib.ListN.{length}
use Rattle.compile.proofs.Compiling.{Compiling}
use Rattle.compile.proofs.compile.Given as goal

abbrev pub invariant-loop-at : goal.invariant-loop-at
invariant-loop-at l = (length l.rows ≡ length l.initial.rows) × (l.row ≤ 16 * l.at) × Compiling l.code l.attributes l.rows l.row l.at

abbrev pub decreases-loop-at : goal.decreases-loop-at
decreases-loop-at l = length l.code - l.at
