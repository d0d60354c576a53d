-- `file::rule::put_rows` meets its contract: the rows are made apart and laid over their place. Assumes nothing.
use Rattle.file.proofs.RuleLines.{compiled-into}
use Rattle.file.proofs.rule.put_rows.Goals as goal

pub returns : goal.returns
returns c =
    compiled-into _ c.args.k c.args.code.now _ c.requires.1 c.requires.2 c.compile.ensures.1 c.compile.ensures.0 _ c.put.ensures.is
