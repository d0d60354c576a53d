-- `ties::leads_up` meets its contract: what is done is not e, and what lies one tie further up is done or left. Assumes nothing.
use mathlib.Core.Bool.{not}
use Rattle.bits.specs.Bits.{bit, count_below}
use Rattle.ties.proofs.Climbing.{Climbed}
use Rattle.ties.proofs.leads_up.Given as goal

abbrev pub invariant-loop-left : goal.invariant-loop-left
invariant-loop-left l = Climbed l.ups l.slots l.k l.e l.done l.left

abbrev pub decreases-loop-left : goal.decreases-loop-left
decreases-loop-left l = count_below 64 (λ q. not (bit l.done q))
