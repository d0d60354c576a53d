-- `ties::widened` meets its contract: of the slots that the walk has passed, those that are to be taken are. Assumes nothing.
use Rattle.bits.specs.Bits.{bit, count_below}
use Rattle.ties.proofs.Widening.{SlotsPassed}
use Rattle.ties.proofs.widened.Given as goal

abbrev pub invariant-loop-left : goal.invariant-loop-left
invariant-loop-left l = SlotsPassed l.ups l.slots l.e l.m l.next (bit l.left)

abbrev pub decreases-loop-left : goal.decreases-loop-left
decreases-loop-left l = count_below 64 (bit l.left)
