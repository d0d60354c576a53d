-- `key_of_ups` meets its contract.
use Rattle.writer.proofs.TieTexts.{member-key, parent-key}
use mathlib.Core.Path.{sym, ◌∙◌}
use Rattle.writer.proofs.tie.key_of_ups.Goals as goal

pub returns-then-word-eq0 : goal.returns-then-word-eq0
returns-then-word-eq0 c =
    member-key c.args.book.now c.args.h (sym c.word.ensures ∙ c.if-word-eq0.true)

pub returns-else-word-eq0 : goal.returns-else-word-eq0
returns-else-word-eq0 c =
    parent-key c.args.book.now c.args.h (λ e. c.if-word-eq0.false (c.word.ensures ∙ e))
