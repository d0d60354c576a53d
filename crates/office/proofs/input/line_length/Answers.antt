-- `office::input::line_length` meets its contract.
use mathlib.Core.Path.{refl}
use native.Mathlib.Omega.{arith}
use Rattle.office.proofs.InputLines.{line-ends, line-runs-out}
use Rattle.office.proofs.input.line_length.Goals as goal

pub overflow_add-result : goal.overflow_add-result
overflow_add-result c = omega (arith, (c.in-Some.ensures.found c.in-Some.i refl).0)

pub returns-in-Some : goal.returns-in-Some
returns-in-Some c = let (within, cut) = c.in-Some.ensures.found c.in-Some.i refl in line-ends _ _ within cut

pub returns-in-None : goal.returns-in-None
returns-in-None c = line-runs-out _ (c.in-None.ensures.absent refl)
