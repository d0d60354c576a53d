-- `ties::joins` meets its contract. Assumes nothing.
use native.Mathlib.Omega.{arith}
use Rattle.bits.specs.Bits.{bit}
use Rattle.bits.proofs.Counts.{count-below-le}
use Rattle.ties.specs.TieJoins.{joins_by}
use Rattle.ties.proofs.joins.Goals as goal

pub overflow_add-result : goal.overflow_add-result
overflow_add-result c = let few = count-below-le 64 (bit c.args.up) in record { fits = omega (arith, few, c.ones.ensures) }

pub returns : goal.returns
unfolding joins_by
returns c = let few = count-below-le 64 (bit c.args.up) in (omega (arith, c.ones.ensures), omega (arith, few, c.ones.ensures))
