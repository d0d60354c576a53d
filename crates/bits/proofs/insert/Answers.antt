-- `bits::insert` meets its contract. Assumes nothing.
use Rattle.bits.proofs.Sets.{member-with}
use Rattle.bits.proofs.insert.Goals as goal

pub returns : goal.returns
returns c q = member-with c.args.set.now c.args.p c.with.result c.requires c.with.ensures q
