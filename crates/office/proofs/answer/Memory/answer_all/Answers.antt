-- `office::answer::Memory::answer_all` meets its contract: the commands passed are answered.
use mathlib.Core.Path.{refl, ◌∙◌}
use Rattle.office.specs.Answers.{lent}
use Rattle.office.proofs.Answers.{none-answered, more-answered}
use Rattle.office.proofs.answer.Memory.answer_all.Goals as goal

pub loop-line-init : goal.loop-line-init
loop-line-init c = (tt, tt, refl, rw c.into_iter-line-iterator.ensures.into_iter_gives (none-answered c.args.commands.rest.now (lent c.args.self.now) c.args.out.now c.args.at), (refl, refl, refl))

pub loop-line-preserved : goal.loop-line-preserved
loop-line-preserved c =
    let same = c.answer-end.ensures.same_references in
    let so_far = c.loop-line.invariant.4 in (
      tt,
      tt,
      c.answer-end.auto.buffer ∙ c.loop-line.invariant.2,
      more-answered c.loop-line.invariant.3 c.in-Some.ensures.steps c.answer-end.ensures.answered,
      (same.0 ∙ so_far.0, same.1 ∙ so_far.1, same.2 ∙ so_far.2),
    )
