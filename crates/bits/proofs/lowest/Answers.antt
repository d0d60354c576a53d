-- `bits::lowest` meets its contract: the machine's count of zeros. Assumes nothing.
use lib.Count.{trailing_le}
use Rattle.bits.proofs.Walks.{lowest_by}
use native.Mathlib.Omega.{arith}
use Rattle.bits.proofs.lowest.Goals as goal

pub overflow_cast-result : goal.overflow_cast-result
overflow_cast-result c = omega (arith, trailing_le 64 c.args.w)

pub returns : goal.returns
returns c = lowest_by c.args.w c.ranges.w.fits
