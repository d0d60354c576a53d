-- `printing::put_pair` meets its contract.
use Rattle.printing.proofs.PrintedLines.{pair-laid}
use Rattle.printing.proofs.put_pair.Goals as goal

pub returns : goal.returns
returns c =
    pair-laid c.put-a.ensures c.args.number
    c.put_decimal-b.ensures c.args.other
    c.put_byte-c.ensures c.put_decimal.ensures c.requires.1
