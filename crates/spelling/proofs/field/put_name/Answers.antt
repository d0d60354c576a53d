-- `put_name` meets its contract.
use Rattle.output.specs.Laid.{word_text}
use Rattle.spelling.specs.LineTexts.{name_text}
use Rattle.output.proofs.Laying.{laid_on, laid_as}
use mathlib.Core.Path.{ap}
use native.Mathlib.Omega.{arith}
use Rattle.spelling.proofs.field.put_name.Goals as goal

pub returns : goal.returns
unfolding name_text
returns c =
    (laid_on (laid_as (ap (word_text 8) c.word.ensures) c.put_word-n.ensures.0) (laid_as (ap (word_text 8) c.word-2.ensures) c.put_rest.ensures.0), omega (arith, c.put_word-n.ensures.1, c.put_rest.ensures.1))
