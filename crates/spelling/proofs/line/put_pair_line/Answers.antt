-- `put_pair_line` meets its contract.
use Rattle.spelling.specs.LineTexts.{attribute_text, pair_line_text}
use Rattle.output.proofs.Laying.{laid_on, laid_as}
use mathlib.Core.Path.{ap}
use native.Mathlib.Omega.{arith}
use Rattle.spelling.proofs.line.put_pair_line.Goals as goal

pub returns : goal.returns
unfolding pair_line_text
returns c =
    (laid_on c.put_key-a.ensures.0 (laid_on (laid_as (ap (attribute_text c.args.book.now) c.row_of_pair.ensures.0) c.put_attribute-b.ensures.0) (laid_on c.put_byte-c.ensures (laid_on c.put_pair_atom-d.ensures.0 c.put_byte.ensures))), omega (arith, c.put_key-a.ensures.1, c.put_attribute-b.ensures.1, c.put_byte-c.ensures.behind, c.put_pair_atom-d.ensures.1, c.put_byte.ensures.behind))
