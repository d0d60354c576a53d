-- `office::input::is_end` meets its contract.
use mathlib.Core.Path.{sym}
use Rattle.office.proofs.InputLines.{end-told}
use Rattle.office.proofs.input.is_end.Goals as goal

pub returns : goal.returns
returns c = end-told _ _ (rw (sym c.bare.ensures, sym c.as_slice.ensures) c.eq.ensures)
