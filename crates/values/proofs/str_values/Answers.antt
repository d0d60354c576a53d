-- `values::str_values` meets its contract. Assumes nothing.
use native.Mathlib.Omega.{arith}
use Rattle.values.specs.Operands.{lent_by}
use Rattle.values.proofs.AttributeValues.{str_values}
use Rattle.values.proofs.str_values.Goals as goal

pub returns : goal.returns
returns c = str_values (lent_by c.args.lent.now) c.args.operand (λ z. omega arith) (λ z. omega arith) c.requires.1
