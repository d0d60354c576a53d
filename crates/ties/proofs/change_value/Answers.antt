-- `ties::change_value` meets its contract. Assumes nothing.
use Rattle.ties.proofs.Editing.{value-changed}
use Rattle.ties.proofs.change_value.Goals as goal

pub returns : goal.returns
returns c =
    value-changed c.args.own.now c.args.h c.args.p c.put.result c.args.plus c.requires.0 c.requires.1 c.put.ensures
