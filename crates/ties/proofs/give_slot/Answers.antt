-- `ties::give_slot` meets its contract. Assumes nothing.
use Rattle.ties.proofs.Editing.{slot-given}
use Rattle.ties.proofs.give_slot.Goals as goal

pub returns : goal.returns
returns c = slot-given c.args.slots.now c.args.q c.args.k c.requires
