-- `put_text` meets its contract.
use Rattle.writer.specs.Texts.{book_text}
use Rattle.output.proofs.Laying.{laid_on}
use native.Mathlib.Omega.{arith}
use Rattle.writer.proofs.put_text.Goals as goal

pub returns : goal.returns
unfolding book_text
returns c =
    (laid_on c.put-a.ensures (laid_on c.put_declared-b.ensures.0 (laid_on c.put_holders-c.ensures.0 (laid_on c.put_ties-d.ensures.0 c.put_rules.ensures.0))), omega (arith, c.put-a.ensures.behind, c.put_declared-b.ensures.1, c.put_holders-c.ensures.1, c.put_ties-d.ensures.1, c.put_rules.ensures.1))
