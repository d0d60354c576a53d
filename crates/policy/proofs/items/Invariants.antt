-- `policy::items` meets its contract. The loop's invariant: what is read from its place on tells what is read from the first on. Assumes nothing.
use Prim.Native.Nat.{◌-◌}
use lib.ListN.{length}
use Rattle.policy.proofs.VarsInCode.{Passed}
use Rattle.policy.proofs.items.Given as goal

abbrev pub invariant-loop-at : goal.invariant-loop-at
invariant-loop-at l = Passed l.code l.kind l.first l.at l.atoms

abbrev pub decreases-loop-at : goal.decreases-loop-at
decreases-loop-at l = length l.code - l.at
