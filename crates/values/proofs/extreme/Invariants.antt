-- `values::extreme` meets its contract. Assumes nothing.
use lib.ListN.{length}
use Rattle.values.proofs.ValueWalks.{Nearing}
use Rattle.values.proofs.extreme.Given as goal

abbrev pub invariant-loop-words : goal.invariant-loop-words
invariant-loop-words g l = Nearing l.greatest (g.V.Values.left l.fn.values) l.best (g.V.Values.left l.values)

abbrev pub decreases-loop-words : goal.decreases-loop-words
decreases-loop-words g l = length (g.V.Values.left l.values)
