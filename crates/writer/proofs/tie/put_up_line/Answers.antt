-- `put_up_line` meets its contract.
use Rattle.output.proofs.Laying.{laid_on}
use native.Mathlib.Omega.{arith}
use Rattle.writer.proofs.tie.put_up_line.Goals as goal

pub returns : goal.returns
returns c =
    (laid_on c.put_key-a.ensures.0 (laid_on c.put_holder-b.ensures.0 (laid_on c.put_byte-c.ensures (laid_on c.put_holder-d.ensures.0 c.put_byte.ensures))), omega (arith, c.put_key-a.ensures.1, c.put_holder-b.ensures.1, c.put_byte-c.ensures.behind, c.put_holder-d.ensures.1, c.put_byte.ensures.behind))
