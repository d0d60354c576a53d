-- `put_holders` meets its contract.
use Rattle.output.proofs.Laying.{laid_on}
use native.Mathlib.Omega.{arith}
use Rattle.writer.proofs.put_holders.Goals as goal

pub returns : goal.returns
returns c =
    (laid_on c.put_holders-a.ensures.0 (laid_on c.put_holders-b.ensures.0 (laid_on c.put_holders-c.ensures.0 c.put_holders.ensures.0)), omega (arith, c.put_holders-a.ensures.1, c.put_holders-b.ensures.1, c.put_holders-c.ensures.1, c.put_holders.ensures.1))
