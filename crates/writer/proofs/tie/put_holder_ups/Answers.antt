-- `put_holder_ups` meets its contract.
use Rattle.writer.proofs.TieTexts.{ups-of-other, ups-of-key}
use Rattle.output.proofs.Laying.{laid_none, laid_as}
use mathlib.Core.Path.{sym, ◌∙◌}
use native.Mathlib.Omega.{arith}
use Rattle.writer.proofs.tie.put_holder_ups.Goals as goal

pub returns-then-from-key : goal.returns-then-from-key
returns-then-from-key c =
    (laid_as (ups-of-key c.args.book.now c.args.h c.args.n c.args.key (sym c.key_of_ups.ensures ∙ sym c.from.ensures ∙ c.if-from-key.true)) c.put_ups.ensures.0, c.put_ups.ensures.1)

pub returns-else-from-key : goal.returns-else-from-key
returns-else-from-key c =
    (laid_as (ups-of-other c.args.book.now c.args.h c.args.n c.args.key (λ e. c.if-from-key.false (c.from.ensures ∙ c.key_of_ups.ensures ∙ e))) (laid_none c.args.out.now c.args.at), omega arith)
