-- `bits::without` meets its contract. Assumes nothing.
use Rattle.bits.proofs.Bits.{bit-without}
use Rattle.bits.proofs.without.Goals as goal

pub returns : goal.returns
returns c j = bit-without c.args.w c.args.i j c.ranges.w.fits c.requires
