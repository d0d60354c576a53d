-- `office::input::split` meets its contract: all lines passed are file.
use mathlib.Core.Path.{refl, sym, ◌∙◌}
use Rattle.office.proofs.InputLines.{so_far_more, splits}
use Rattle.office.proofs.input.split.Goals as goal

pub returns-then-is_end : goal.returns-then-is_end
returns-then-is_end c = splits c.loop-line.invariant c.in-Some.ensures.steps _ refl refl (sym c.is_end.ensures ∙ c.if-is_end.true)

pub loop-line-preserved : goal.loop-line-preserved
loop-line-preserved c = so_far_more c.loop-line.invariant c.in-Some.ensures.steps (sym c.is_end.ensures ∙ c.if-is_end.false)
