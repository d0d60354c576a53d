-- `bits::ones` meets its contract: the machine's count is the number of bits. Assumes nothing.
use Rattle.bits.specs.Bits.{bit}
use Rattle.bits.proofs.Counts.{ones-count, count-below-le}
use native.Mathlib.Omega.{arith}
use Rattle.bits.proofs.ones.Goals as goal

pub overflow_cast-result : goal.overflow_cast-result
overflow_cast-result c = omega (arith, ones-count 64 c.args.w c.ranges.w.fits, count-below-le 64 (bit c.args.w))

pub returns : goal.returns
returns c = ones-count 64 c.args.w c.ranges.w.fits
