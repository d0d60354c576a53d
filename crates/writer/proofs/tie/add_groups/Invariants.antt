-- `add_groups` meets its contract.
use Rattle.bits.specs.Bits.{bit, count_below}
use Rattle.writer.proofs.TieTexts.{GroupsLeft}
use Rattle.writer.proofs.tie.add_groups.Given as goal

abbrev pub invariant-loop-left : goal.invariant-loop-left
invariant-loop-left l = GroupsLeft l.slots l.mask l.initial.groups l.groups l.left

abbrev pub decreases-loop-left : goal.decreases-loop-left
decreases-loop-left l = count_below 64 (bit l.left)
