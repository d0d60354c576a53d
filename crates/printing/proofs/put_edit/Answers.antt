-- `printing::put_edit` meets its contract.
use mathlib.Core.Path.{sym}
use Rattle.model.specs.Gate.{printed}
use Rattle.printing.proofs.PrintedLines.{triple-printed}
use Rattle.printing.proofs.put_edit.Goals as goal

pub returns : goal.returns
unfolding printed
returns c =
    rw (sym c.from.ensures) (triple-printed c.put_pair-a.ensures c.args.edited.joins c.put_byte-b.ensures c.put_decimal-c.ensures c.put_byte.ensures)
