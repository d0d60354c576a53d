-- `program::joined` meets its contract. Assumes nothing.
use Rattle.program.proofs.Levels.{joined_is}
use Rattle.program.proofs.joined.Goals as goal

pub returns : goal.returns
returns c = λ w is few.
    joined_is c.args.w w is c.verdict_of-verdict.result c.verdict_of-verdict.ensures
