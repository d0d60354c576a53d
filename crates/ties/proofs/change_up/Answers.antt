-- `ties::change_up` meets its contract. Assumes nothing.
use Rattle.ties.proofs.Editing.{up-changed}
use Rattle.ties.proofs.change_up.Goals as goal

pub returns : goal.returns
returns c =
    up-changed c.args.ups.now c.args.h c.args.q c.put.result c.args.plus c.requires.0 c.requires.1 c.put.ensures
