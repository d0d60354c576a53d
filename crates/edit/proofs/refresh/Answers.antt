-- `edit::refresh` meets its contract: the first words of table and sections are lent. Assumes nothing.
use native.Mathlib.Omega.{arith}
use Rattle.edit.proofs.LentTies.{lent, table_kept}
use Rattle.edit.proofs.refresh.Goals as goal

pub refresh-requires : goal.refresh-requires
refresh-requires c =
    lent c.args.book.now c.args.table.now c.min-holders.result c.min-groups.result c.requires.0 c.requires.1 c.min-holders.ensures c.min-groups.ensures

pub returns : goal.returns
returns c =
    table_kept c.args.book.now c.args.table.now c.refresh.new.table c.args.edited c.min-holders.result c.min-groups.result c.refresh.result.changed c.refresh.result.joins c.min-holders.ensures c.min-groups.ensures
    (omega (arith, c.requires.1, c.min-holders.ensures)) c.refresh.auto.table c.refresh.ensures
