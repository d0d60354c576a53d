-- `office::answer::Memory::answer_all` meets its contract: the commands passed are answered.
use mathlib.Core.Path.{◌≡◌}
use lib.ListN.{length}
use Rattle.office.specs.Answers.{lent, SameReferences, Answered}
use Rattle.office.proofs.answer.Memory.answer_all.Given as goal

abbrev pub invariant-loop-line : goal.invariant-loop-line
invariant-loop-line l =
    (goal.iterator-loop-line).can_next l.line-iterator
    × (goal.iterator-loop-line).is_finite l.line-iterator
    × (length l.buffer ≡ 32768)
    × Answered l.fn.commands.rest.now l.line-iterator.rest.now (lent l.initial.self) (lent l.self) l.initial.out l.at l.out l.end
    × SameReferences l.initial.self l.self
