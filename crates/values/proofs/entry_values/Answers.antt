-- `values::entry_values` meets its contract. Assumes nothing.
use Rattle.values.specs.Operands.{lent_by}
use Rattle.values.proofs.AttributeValues.{block-values}
use Rattle.values.proofs.entry_values.Goals as goal

pub returns : goal.returns
returns c = block-values (lent_by c.args.lent.now) c.args.operand c.requires
