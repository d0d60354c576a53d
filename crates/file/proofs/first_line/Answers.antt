-- `file::first_line` meets its contract. Assumes nothing.
use Rattle.std.proofs.Common.{◌+◌, arith}
use Rattle.text.proofs.LoopPlaces.{tail-part}
use Rattle.file.proofs.Files.{line-ended, line-unended}
use Rattle.file.proofs.first_line.Goals as goal

pub overflow_add-result : goal.overflow_add-result
overflow_add-result c = omega (arith, c.index_of.ensures.found _ c.in-Some.is)

pub overflow_add-result-in-Some : goal.overflow_add-result-in-Some
overflow_add-result-in-Some c = omega (arith, c.index_of.ensures.found _ c.in-Some.is)

pub slice_bounds-result-count : goal.slice_bounds-result-count
slice_bounds-result-count c = omega (arith, c.index_of.ensures.found _ c.in-Some.is)

pub slice_bounds-result-start : goal.slice_bounds-result-start
slice_bounds-result-start c = omega (arith, c.index_of.ensures.found _ c.in-Some.is)

pub returns-in-Some : goal.returns-in-Some
returns-in-Some c = rw (tail-part (c.in-Some.e + 1) c.args.s.now) (line-ended c.args.s.now c.in-Some.e (c.index_of.ensures.found _ c.in-Some.is))

pub returns-in-None : goal.returns-in-None
returns-in-None c = line-unended c.args.s.now c.in-None.ensures
