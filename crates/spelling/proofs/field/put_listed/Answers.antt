-- `put_listed` meets its contract.
use Rattle.output.specs.Laid.{word_text}
use Rattle.spelling.specs.LineTexts.{listed_text}
use Rattle.output.proofs.Laying.{laid_as}
use mathlib.Core.Path.{ap}
use Rattle.spelling.proofs.field.put_listed.Goals as goal

pub returns : goal.returns
unfolding listed_text
returns c = (laid_as (ap (word_text 8) c.word.ensures) c.put_word.ensures.0, c.put_word.ensures.1)
