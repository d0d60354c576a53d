-- `values::type_of` meets its contract. Assumes nothing.
use borrow.Author.Tests.{le-leb, lt-leb}
use Rattle.values.specs.Operands.{row_type}
use Rattle.values.proofs.type_of.Goals as goal

pub returns-then-ty-le3 : goal.returns-then-ty-le3
unfolding row_type
returns-then-ty-le3 c = rw (le-leb _ 3 c.if-ty-le3.true)

pub returns-else-ty-le3 : goal.returns-else-ty-le3
unfolding row_type
returns-else-ty-le3 c = rw (lt-leb _ 3 c.if-ty-le3.false)
