-- `ties::widened_down` meets its contract: the slots from q on are passed. Assumes nothing.
use lib.Dec.{ltb}
use Rattle.ties.proofs.Widening.{SlotsPassed}
use Rattle.ties.proofs.widened_down.Given as goal

abbrev pub invariant-loop-q : goal.invariant-loop-q
invariant-loop-q l = SlotsPassed l.ups l.slots l.e l.m l.next (λ j. ltb j l.q)
