-- `program::negated` meets its contract. Assumes nothing.
use Rattle.program.proofs.Levels.{negated-is}
use Rattle.program.proofs.negated.Goals as goal

pub returns : goal.returns
returns c = λ w is few. negated-is c.args.w w is
