-- `sets::rewrite_below` meets its contract: the groups, and then the parties below, with all joins. Assumes nothing.
use Rattle.sets.proofs.Refreshing.{rewritten}
use Rattle.sets.proofs.rewrite_below.Goals as goal

pub returns : goal.returns
returns c = (
  rewritten c.args.arrays.now.ups.now c.args.arrays.now.own.now c.args.arrays.now.slots.now c.args.groups.now c.args.edited c.groups_below-below.result c.groups_below-below.ensures c.groups_below-below.type_inv
      c.args.table.now c.settle_groups.new.table c.store_under.new.table c.args.marks.now c.settle_groups.new.marks c.store_under.new.marks c.settle_groups.result c.settle_groups.ensures c.store_under.ensures.0,
  record { mask = c.groups_below-below.result; marks = c.groups_below-below.ensures; summed = c.store_under.ensures.1 },
)
