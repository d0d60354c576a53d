-- `sets::refresh` meets its contract: one set, or a group's and those below it, whose marks are counted. Assumes nothing.
use Prim.Native.Nat.{ℕ, ◌*◌}
use mathlib.Core.Path.{refl, sym, ap, ◌∙◌}
use Rattle.bits.specs.Bits.{member, count_below}
use Rattle.sets.proofs.Refreshing.{refreshed-alone, refreshed-below}
use Rattle.sets.proofs.refresh.Goals as goal

pub returns-then-not-is_group : goal.returns-then-not-is_group
returns-then-not-is_group c =
    refreshed-alone c.args.ups.now c.args.own.now c.args.slots.now c.args.groups.now c.args.edited _ c.args.table.now c.refresh_alone.new.table
    (sym c.is_group.ensures ∙ c.if-not-is_group.true) c.requires.1 c.requires.0.table-long (c.refresh_alone.auto.table ∙ c.requires.0.table-long) refl
    c.refresh_alone.ensures.0 c.refresh_alone.result.changed c.refresh_alone.result.joins c.refresh_alone.ensures.1 c.refresh_alone.ensures.2

pub returns : goal.returns
returns c =
    refreshed-below c.args.ups.now c.args.own.now c.args.slots.now c.args.groups.now c.args.edited c.args.table.now c.rewrite_below-joins.new.table c.rewrite_below-joins.new.marks c.count.result c.rewrite_below-joins.result
    c.requires.1 c.requires.0.table-long (c.rewrite_below-joins.auto.table ∙ c.requires.0.table-long) c.rewrite_below-joins.ensures.0
    (c.count.ensures ∙ ap (λ (n : ℕ). count_below (64 * n) (member c.rewrite_below-joins.new.marks)) c.rewrite_below-joins.auto.marks) c.rewrite_below-joins.ensures.1
