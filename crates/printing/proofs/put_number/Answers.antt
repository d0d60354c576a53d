-- `printing::put_number` meets its contract.
use Rattle.printing.proofs.PrintedLines.{number-printed}
use Rattle.printing.proofs.put_number.Goals as goal

pub returns : goal.returns
returns c =
    number-printed c.put-a.ensures c.args.n c.put_decimal-b.ensures c.put_byte.ensures c.requires.1
