-- `bits::remove` meets its contract. Assumes nothing.
use Rattle.bits.proofs.Sets.{member-without}
use Rattle.bits.proofs.remove.Goals as goal

pub returns : goal.returns
returns c q = member-without c.args.set.now c.args.p c.without.result c.requires c.without.ensures q
