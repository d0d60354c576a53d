-- `printing::put_load` meets its contract.
use mathlib.Core.Path.{sym}
use Rattle.model.specs.Gate.{printed}
use Rattle.printing.proofs.PrintedLines.{pair-printed}
use Rattle.printing.proofs.put_load.Goals as goal

pub returns : goal.returns
unfolding printed
returns c = rw (sym c.from.ensures) (pair-printed c.put_pair-a.ensures c.put_byte.ensures)
