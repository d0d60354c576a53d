-- `put_gap` meets its contract.
use Rattle.spelling.proofs.RuleTexts.{no_gap, gap_by}
use Rattle.output.proofs.Laying.{laid_none, laid_as}
use mathlib.Core.Path.{sym, ◌∙◌}
use native.Mathlib.Omega.{arith}
use Rattle.spelling.proofs.rule.put_gap.Goals as goal
use Rattle.spelling.proofs.rule.put_gap.Goals.{else-word-via-then-word+else-is_word, else-word-via-else-word}

pub returns-then-is_word : goal.returns-then-is_word
returns-then-is_word c =
    (laid_as (gap_by c.args.word c.args.kind c.if-word.true (sym c.is_word.ensures ∙ c.if-is_word.true)) c.put_byte.ensures, omega (arith, c.put_byte.ensures.behind))

pub returns-else-word : goal.returns-else-word
returns-else-word c = (
  laid_as (elim c.else-word.branch [
    | else-word-via-then-word+else-is_word w ↦ gap_by c.args.word c.args.kind w.if-word.true (sym w.is_word.ensures ∙ w.if-is_word.false)
    | else-word-via-else-word w ↦ no_gap c.args.word c.args.kind w.if-word.false
  ]) (laid_none c.args.out.now c.args.at),
  omega arith,
)
