-- `put_rest` meets its contract.
use Rattle.output.proofs.PackedWords.{word_none}
use Rattle.output.specs.Laid.{word_text}
use Rattle.output.proofs.Laying.{laid_none, laid_as}
use mathlib.Core.Path.{sym, ap, ◌∙◌}
use native.Mathlib.Omega.{arith}
use Rattle.spelling.proofs.field.put_rest.Goals as goal

pub returns-then-word-eq0 : goal.returns-then-word-eq0
returns-then-word-eq0 c =
    (laid_as (sym (ap (word_text 8) c.if-word-eq0.true ∙ word_none 8)) (laid_none c.args.out.now c.args.at), omega arith)
