-- `fields::cut` meets its contract.
use Rattle.std.proofs.Common.{arith}
use Rattle.fields.proofs.cut.Goals as goal

pub overflow_add-result : goal.overflow_add-result
overflow_add-result c = omega (arith, c.index_of.ensures.found _ c.in_ok-i.was)

pub slice_bounds-result-count : goal.slice_bounds-result-count
slice_bounds-result-count c = omega (arith, c.index_of.ensures.found _ c.in_ok-i.was)

pub slice_bounds-result-start : goal.slice_bounds-result-start
slice_bounds-result-start c = omega (arith, c.index_of.ensures.found _ c.in_ok-i.was)
