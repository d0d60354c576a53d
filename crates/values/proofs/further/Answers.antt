-- `values::further` meets its contract. Assumes nothing.
use borrow.Author.Rules.{rules}
use Rattle.values.specs.Compared.{further}
use Rattle.values.proofs.further.Goals as goal

pub returns-then-greatest : goal.returns-then-greatest
unfolding further
returns-then-greatest c = search rules

pub returns-else-greatest : goal.returns-else-greatest
unfolding further
returns-else-greatest c = search rules
