-- `put_attribute_line` meets its contract.
use Rattle.output.specs.Laid.{far}
use Prim.Native.Nat.{◌<◌}
use Rattle.spelling.specs.LineTexts.{listed_text, source_words, type_words, attribute_line_text}
use Rattle.output.proofs.Laying.{laid_on, laid_as}
use mathlib.Core.Path.{ap}
use native.Mathlib.Omega.{arith}
use Rattle.spelling.proofs.line.put_attribute_line.Goals as goal

pub put_byte-requires : goal.put_byte-requires
put_byte-requires c =
    let g : c.put_type-f.result < far = omega (arith, c.put_key-a.ensures.1, c.put_source-b.ensures.1, c.put_byte-c.ensures.behind, c.put_name-d.ensures.1, c.put_byte-e.ensures.behind, c.put_type-f.ensures.1, c.requires.0) in
    g

pub returns : goal.returns
unfolding attribute_line_text
returns c =
    (laid_on c.put_key-a.ensures.0 (laid_on (laid_as (ap (listed_text source_words) c.word.ensures) c.put_source-b.ensures.0) (laid_on c.put_byte-c.ensures (laid_on c.put_name-d.ensures.0 (laid_on c.put_byte-e.ensures (laid_on (laid_as (ap (listed_text type_words) c.word-2.ensures) c.put_type-f.ensures.0) c.put_byte.ensures))))), omega (arith, c.put_key-a.ensures.1, c.put_source-b.ensures.1, c.put_byte-c.ensures.behind, c.put_name-d.ensures.1, c.put_byte-e.ensures.behind, c.put_type-f.ensures.1, c.put_byte.ensures.behind))
