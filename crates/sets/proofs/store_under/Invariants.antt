-- `sets::store_under` meets its contract: before holder k the parties are stored, and the joins summed. Assumes nothing.
use Prim.Native.Nat.{◌*◌}
use mathlib.Core.Path.{◌≡◌}
use lib.ListN.{length}
use Rattle.ties.specs.TieJoins.{joins_under}
use Rattle.sets.specs.Settled.{PartiesStored}
use Rattle.sets.proofs.store_under.Given as goal

abbrev pub invariant-loop-k : goal.invariant-loop-k
invariant-loop-k l =
    (length l.table ≡ 4 * length l.arrays.ups.now) × (length l.marks ≡ length l.initial.marks)
    × PartiesStored l.arrays.ups.now l.arrays.own.now l.arrays.slots.now l.groups l.below l.edited l.initial.table l.table l.initial.marks l.marks l.k × (l.joins ≡ joins_under l.arrays.ups.now l.below l.edited l.k)
