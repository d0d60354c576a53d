-- `index::link_place` meets its contract. Assumes nothing.
use Prim.Native.Nat.{◌+◌, ◌<◌}
use Rattle.std.specs.Prelude.{IfSome}
use lib.ListN.{length}
use Rattle.index.specs.Index.{chains, rows_in}
use Rattle.index.proofs.ChainWalks.{reach}
use Rattle.index.proofs.Relinking.{Passes}
use Rattle.index.proofs.link_place.Given as goal

abbrev pub invariant-loop-at : goal.invariant-loop-at
invariant-loop-at l =
    IfSome l.at (λ k. k < rows_in (length l.section)) × (l.place < chains + rows_in (length l.section)) × Passes l.section l.chain l.number l.place l.at

abbrev pub decreases-loop-at : goal.decreases-loop-at
decreases-loop-at l = reach l.at
