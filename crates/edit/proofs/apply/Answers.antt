-- `edit::apply` meets its contract. Assumes nothing.
use mathlib.Core.Path.{sym, ◌∙◌}
use Rattle.tielines.specs.TieReading.{tie_of}
use Rattle.edit.proofs.EditTables.{applied}
use Rattle.edit.proofs.apply.Goals as goal

pub returns : goal.returns
returns c = (
  applied c.args.plus (tie_of c.args.t) c.args.book.now c.change.new.book c.args.table.now c.refresh.new.table
      c.edited.result c.refresh.result.changed c.refresh.result.joins (sym c.edited.ensures) c.change.ensures c.refresh.ensures
      (c.refresh.auto.table ∙ c.requires.1) (λ j. (c.type_inv.table j).fits),
  record { few = c.refresh.ensures.refreshed.at-most; few-joins = c.refresh.ensures.refreshed.joins-at-most },
)
