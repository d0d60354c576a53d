-- `values::found_among` meets its contract. Assumes nothing.
use lib.ListN.{length}
use Rattle.values.specs.Operands.{lent_by, operand_values}
use Rattle.values.proofs.ValueWalks.{Finding}
use Rattle.values.proofs.found_among.Given as goal

abbrev pub invariant-loop-words : goal.invariant-loop-words
invariant-loop-words g l = Finding l.wanted (operand_values (lent_by l.lent) l.others) (g.V.Values.left l.fn.values) l.some (g.V.Values.left l.values)

abbrev pub decreases-loop-words : goal.decreases-loop-words
decreases-loop-words g l = length (g.V.Values.left l.values)
