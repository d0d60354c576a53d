-- `sets::store_tied` meets its contract: before holder k those that have a tie are stored. Assumes nothing.
use Prim.Native.Nat.{◌*◌}
use mathlib.Core.Path.{◌≡◌}
use lib.ListN.{length}
use Rattle.sets.specs.Settled.{StoredTied}
use Rattle.sets.proofs.store_tied.Given as goal

abbrev pub invariant-loop-k : goal.invariant-loop-k
invariant-loop-k l =
    (length l.table ≡ 4 * length l.arrays.ups.now) × StoredTied l.arrays.ups.now l.arrays.own.now l.arrays.slots.now l.initial.table l.table l.k
