-- `put_eight` meets its contract: after each turn one byte more is laid, where the word has one more.
use Prim.Native.Nat.{◌-◌}
use Rattle.output.proofs.EightBytes.{Turns}
use Rattle.output.proofs.put_eight.Given as goal

abbrev pub invariant-loop-i : goal.invariant-loop-i
invariant-loop-i l = Turns l.initial.out l.at l.word l.out l.left l.i

abbrev pub decreases-loop-i : goal.decreases-loop-i
decreases-loop-i l = 8 - l.i
