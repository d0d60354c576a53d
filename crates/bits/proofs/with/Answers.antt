-- `bits::with` meets its contract. Assumes nothing.
use Rattle.bits.proofs.Bits.{bit-with}
use Rattle.bits.proofs.with.Goals as goal

pub returns : goal.returns
returns c j = bit-with c.args.w c.args.i j c.requires
