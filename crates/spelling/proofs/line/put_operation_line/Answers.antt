-- `put_operation_line` meets its contract.
use Rattle.spelling.specs.LineTexts.{operation_line_text}
use Rattle.output.proofs.Laying.{laid_on}
use native.Mathlib.Omega.{arith}
use Rattle.spelling.proofs.line.put_operation_line.Goals as goal

pub returns : goal.returns
unfolding operation_line_text
returns c =
    (laid_on c.put_key-a.ensures.0 (laid_on c.put_name-b.ensures.0 c.put_byte.ensures), omega (arith, c.put_key-a.ensures.1, c.put_name-b.ensures.1, c.put_byte.ensures.behind))
