-- `put_ties` meets its contract.
use Rattle.output.proofs.Laying.{laid_on}
use native.Mathlib.Omega.{arith}
use Rattle.writer.proofs.put_ties.Goals as goal

pub returns : goal.returns
returns c =
    (laid_on c.put_key_ups-a.ensures.0 (laid_on c.put_key_ups-b.ensures.0 c.put_values.ensures.0), omega (arith, c.put_key_ups-a.ensures.1, c.put_key_ups-b.ensures.1, c.put_values.ensures.1))
