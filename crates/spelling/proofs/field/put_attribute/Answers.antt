-- `put_attribute` meets its contract.
use Rattle.spelling.specs.LineTexts.{listed_text, source_words, attribute_text}
use Rattle.output.proofs.Laying.{laid_on, laid_as}
use mathlib.Core.Path.{ap}
use native.Mathlib.Omega.{arith}
use Rattle.spelling.proofs.field.put_attribute.Goals as goal

pub returns : goal.returns
unfolding attribute_text
returns c =
    (laid_on (laid_as (ap (listed_text source_words) c.word.ensures) c.put_source-a.ensures.0) (laid_on c.put_byte-b.ensures c.put_name.ensures.0), omega (arith, c.put_source-a.ensures.1, c.put_byte-b.ensures.behind, c.put_name.ensures.1))
