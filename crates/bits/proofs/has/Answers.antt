-- `bits::has` meets its contract: the code's test is the bit. Assumes nothing.
use Rattle.bits.proofs.Bits.{bit_test}
use Rattle.bits.proofs.has.Goals as goal

pub returns : goal.returns
returns c = bit_test c.args.w c.args.i
