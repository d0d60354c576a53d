-- `bits::from` meets its contract. Assumes nothing.
use Rattle.bits.proofs.Walks.{bit-from}
use Rattle.bits.proofs.from.Goals as goal

pub returns : goal.returns
returns c j = bit-from c.args.w c.args.i j c.ranges.w.fits c.requires
