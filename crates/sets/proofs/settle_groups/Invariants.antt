-- `sets::settle_groups` meets its contract: the groups that the walk has passed are settled. Assumes nothing.
use mathlib.Core.Path.{◌≡◌}
use mathlib.Core.Bool.{false}
use Prim.Native.Nat.{◌<◌, ◌*◌}
use lib.ListN.{length}
use Rattle.bits.specs.Bits.{bit, count_below}
use Rattle.sets.specs.Settled.{Settled, AllDeep}
use Rattle.sets.proofs.settle_groups.Given as goal

abbrev pub invariant-loop-left : goal.invariant-loop-left
invariant-loop-left l =
    (length l.table ≡ 4 * length l.arrays.ups.now) × (length l.marks ≡ length l.initial.marks)
    × Settled l.arrays.ups.now l.arrays.own.now l.arrays.slots.now l.initial.table l.table l.initial.marks l.marks l.done l.seen (AllDeep l.arrays.ups.now l.arrays.slots.now) (λ q. (q < 64) × (bit l.left q ≡ false))

abbrev pub decreases-loop-left : goal.decreases-loop-left
decreases-loop-left l = count_below 64 (bit l.left)
