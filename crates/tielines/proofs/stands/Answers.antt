-- `tielines::stands` meets its contract. Assumes nothing.
use Rattle.tielines.specs.TieReading.{tie_of}
use Rattle.tielines.proofs.TieEditing.{leads_up}
use Rattle.tielines.proofs.stands.Goals as goal

pub returns-in-Value : goal.returns-in-Value
returns-in-Value c = rw c.in-Value.is c.stands_value.ensures

pub returns-in-Parent : goal.returns-in-Parent
returns-in-Parent c = c.stands_up.ensures (tie_of c.args.t) (leads_up c.in-Parent.is)
