-- `sets::gather` meets its contract: the sum has the pairs of the groups that the walk has passed. Assumes nothing.
use mathlib.Core.Path.{◌≡◌}
use mathlib.Core.Bool.{◌&&◌, ◌||◌}
use Prim.Native.Nat.{ℕ, ◌<◌}
use lib.ListN.{get_or}
use Rattle.bits.specs.Bits.{bit, member, holds, any_below, count_below}
use Rattle.sets.proofs.gather.Given as goal

abbrev pub invariant-loop-above : goal.invariant-loop-above
invariant-loop-above l =
    (p : ℕ) → p < 256
    → (member l.sum p || any_below 64 (λ q. bit l.above q && holds l.table (get_or l.slots q 0) p)) ≡ any_below 64 (λ q. bit l.mask q && holds l.table (get_or l.slots q 0) p)

abbrev pub decreases-loop-above : goal.decreases-loop-above
decreases-loop-above l = count_below 64 (bit l.above)
