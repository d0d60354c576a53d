-- `tielines::stands_value` meets its contract. Assumes nothing.
use Rattle.tielines.proofs.TieFitting.{value-fits}
use Rattle.tielines.proofs.TieEditing.{value-stands, no_value}
use Rattle.tielines.proofs.stands_value.Goals as goal

pub returns-then-p-lt-PAIRS : goal.returns-then-p-lt-PAIRS
returns-then-p-lt-PAIRS c =
    value-stands _ c.requires c.args.h c.args.p c.contains.result c.if-p-lt-PAIRS.true.0 c.if-p-lt-PAIRS.true.1 c.contains.ensures

pub returns-else-p-lt-PAIRS : goal.returns-else-p-lt-PAIRS
returns-else-p-lt-PAIRS c S code standing held f =
    let fits = value-fits standing held c.args.h c.args.p f in absurd (no_value _ c.requires c.args.h c.args.p c.if-p-lt-PAIRS.either fits.0 fits.1)
