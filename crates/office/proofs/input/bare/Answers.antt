-- `office::input::bare` meets its contract.
use mathlib.Core.Path.{refl, sym}
use native.Mathlib.Omega.{arith}
use lib.Seq.{length-take-le}
use Rattle.office.proofs.InputLines.{bare-inside}
use Rattle.office.proofs.input.bare.Goals as goal

pub overflow_add-i : goal.overflow_add-i
overflow_add-i c = omega (arith, (c.in-Some.ensures.found c.in-Some.i refl).0)

pub slice_bounds-result-end : goal.slice_bounds-result-end
slice_bounds-result-end c = sym (length-take-le _ _ (omega (arith, c.if-i-line.true)))

pub returns-in_default : goal.returns-in_default
returns-in_default c = let (within, cut) = c.in-Some.ensures.found c.in-Some.i refl in bare-inside _ _ within cut c.if-i-line.false
