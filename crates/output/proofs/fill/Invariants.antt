-- `fill` meets its contract: the last digits stand at the end of the array.
use Rattle.output.proofs.Digits.{Filling}
use Rattle.output.proofs.fill.Given as goal

abbrev pub invariant-loop-m : goal.invariant-loop-m
invariant-loop-m l = Filling l.n l.digits l.m l.i

abbrev pub decreases-loop-m : goal.decreases-loop-m
decreases-loop-m l = l.m
