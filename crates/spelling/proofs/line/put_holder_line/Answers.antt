-- `put_holder_line` meets its contract.
use Rattle.spelling.proofs.LaidTexts.{holder-line, no-holder-line}
use Rattle.spelling.specs.LineTexts.{holder_line_text}
use Rattle.output.proofs.Laying.{laid_none, laid_on, laid_as}
use mathlib.Core.Path.{sym, ◌∙◌}
use native.Mathlib.Omega.{arith}
use Rattle.spelling.proofs.line.put_holder_line.Goals as goal

pub returns-then-word-from : goal.returns-then-word-from
unfolding holder_line_text
returns-then-word-from c =
    (laid_as (no-holder-line c.args.book.now c.args.sort c.args.k (λ e. c.if-word-from.true (c.word.ensures ∙ e ∙ sym c.from.ensures))) (laid_none c.args.out.now c.args.at), omega arith)

pub returns : goal.returns
unfolding holder_line_text
returns c =
    (laid_as (holder-line c.args.book.now c.args.sort c.args.k (sym c.word.ensures ∙ c.if-word-from.false ∙ c.from.ensures)) (laid_on c.put_key-a.ensures.0 (laid_on c.put_holder-b.ensures.0 c.put_byte.ensures)), omega (arith, c.put_key-a.ensures.1, c.put_holder-b.ensures.1, c.put_byte.ensures.behind))
