-- `values::pair_values` meets its contract. Assumes nothing.
use Rattle.values.specs.Operands.{lent_by}
use Rattle.values.proofs.AttributeValues.{session-values}
use Rattle.values.proofs.pair_values.Goals as goal

pub returns : goal.returns
returns c = session-values (lent_by c.args.lent.now) c.args.operand c.requires
