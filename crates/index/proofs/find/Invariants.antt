-- `index::find` meets its contract: the link leads to a row of the chain, and no row from there up has the words. Assumes nothing.
use Prim.Native.Nat.{◌<◌}
use Rattle.std.specs.Prelude.{IfSome}
use Rattle.index.proofs.ChainWalks.{reach, Walks}
use Rattle.index.proofs.find.Given as goal

abbrev pub invariant-loop-at : goal.invariant-loop-at
invariant-loop-at l = IfSome l.at (λ k. k < l.n) × Walks l.section l.fn.row l.at

abbrev pub decreases-loop-at : goal.decreases-loop-at
decreases-loop-at l = reach l.at
