-- `put_string` meets its contract.
use Rattle.output.specs.Laid.{word_text}
use Rattle.spelling.specs.LineTexts.{string_text}
use Rattle.output.proofs.Laying.{laid_on, laid_as}
use mathlib.Core.Path.{ap}
use native.Mathlib.Omega.{arith}
use Rattle.spelling.proofs.field.put_string.Goals as goal

pub returns : goal.returns
unfolding string_text
returns c =
    (laid_on c.put_byte-a.ensures (laid_on (laid_on c.put_name-b.ensures.0 (laid_as (ap (word_text 8) c.word.ensures) c.put_rest-c.ensures.0)) c.put_byte.ensures), omega (arith, c.put_byte-a.ensures.behind, c.put_name-b.ensures.1, c.put_rest-c.ensures.1, c.put_byte.ensures.behind))
