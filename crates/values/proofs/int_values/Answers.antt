-- `values::int_values` meets its contract. Assumes nothing.
use native.Mathlib.Omega.{arith}
use Rattle.values.specs.Operands.{lent_by}
use Rattle.values.proofs.AttributeValues.{int-values}
use Rattle.values.proofs.int_values.Goals as goal

pub returns : goal.returns
returns c = int-values (lent_by c.args.lent.now) c.args.operand (λ z. omega arith) (λ z. omega arith) c.requires.1
