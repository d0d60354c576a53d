-- `put_declared` meets its contract.
use Rattle.output.proofs.Laying.{laid_on}
use native.Mathlib.Omega.{arith}
use Rattle.writer.proofs.put_declared.Goals as goal

pub returns : goal.returns
returns c =
    (laid_on c.put_attributes-a.ensures.0 (laid_on c.put_operations-b.ensures.0 c.put_pairs.ensures.0), omega (arith, c.put_attributes-a.ensures.1, c.put_operations-b.ensures.1, c.put_pairs.ensures.1))
