-- `sets::settle` meets its contract: the groups one tie up, one after another, and then the group's own set. The measure is the height.
-- Assumes nothing.
use mathlib.Core.Path.{◌≡◌}
use mathlib.Core.Bool.{true, false}
use Prim.Native.Nat.{ℕ, ◌<◌, ◌*◌}
use lib.ListN.{length}
use Rattle.bits.specs.Bits.{bit, count_below}
use Rattle.sets.specs.Settled.{Settled, Deep, Spared}
use Rattle.sets.proofs.+settle.Given as goal

abbrev pub decreases-settle : goal.decreases-settle
decreases-settle l = l.height

abbrev pub invariant-loop-left : goal.invariant-loop-left
invariant-loop-left l =
    (length l.table ≡ 4 * length l.arrays.ups.now) × (length l.marks ≡ length l.initial.marks) × ((q : ℕ) → q < 64 → bit l.left q ≡ true → bit l.mask q ≡ true)
    × Spared l.below l.done l.seen
    × Settled l.arrays.ups.now l.arrays.own.now l.arrays.slots.now l.initial.table l.table l.initial.marks l.marks l.done l.seen (Deep l.arrays.ups.now l.arrays.slots.now l.path l.height l.group)
    (λ g. (bit l.mask g ≡ true) × (bit l.left g ≡ false))

abbrev pub decreases-loop-left : goal.decreases-loop-left
decreases-loop-left l = count_below 64 (bit l.left)
