-- `ties::groups_below` meets its contract: what is marked is below, the mask grows, and where it does not it has all. Assumes nothing.
use Prim.Native.Nat.{◌<◌, ◌-◌, ◌^◌}
use Rattle.bits.specs.Bits.{bit, count_below}
use Rattle.ties.specs.TieArrays.{AllUnder, Widened}
use Rattle.ties.proofs.groups_below.Given as goal

abbrev pub invariant-loop-next : goal.invariant-loop-next
invariant-loop-next l =
    (l.m < 2 ^ 64) × (l.next < 2 ^ 64) × AllUnder l.ups l.slots l.e l.m × Widened l.ups l.slots l.e l.m l.next

abbrev pub decreases-loop-next : goal.decreases-loop-next
decreases-loop-next l = 64 - count_below 64 (bit l.m)
