-- `values::among` meets its contract. Assumes nothing.
use lib.ListN.{length}
use Rattle.values.proofs.ValueWalks.{Searching}
use Rattle.values.proofs.among.Given as goal

abbrev pub invariant-loop-words : goal.invariant-loop-words
invariant-loop-words g l = Searching l.wanted (g.V.Values.left l.fn.values) l.some (g.V.Values.left l.values)

abbrev pub decreases-loop-words : goal.decreases-loop-words
decreases-loop-words g l = length (g.V.Values.left l.values)
