-- `program::around` meets its contract. Assumes nothing.
use Rattle.program.proofs.Levels.{uncovered}
use Rattle.program.proofs.around.Goals as goal

pub returns : goal.returns
returns c = uncovered c.args.outer c.of_number-conjunctions.result c.of_number-terms.result c.of_number-conjunctions.ensures c.of_number-terms.ensures
