-- `program::closed` meets its contract. Assumes nothing.
use Rattle.program.proofs.Levels.{closed_is}
use Rattle.program.proofs.closed.Goals as goal

pub returns : goal.returns
returns c = λ w is few.
    closed_is c.args.w w is c.verdict_of-inside.result c.around.result c.with_term.result c.verdict_of-inside.ensures c.around.ensures c.with_term.ensures
