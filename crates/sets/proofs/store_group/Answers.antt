-- `sets::store_group` meets its contract: the group is settled, whether its set changed or not. Assumes nothing.
use Prim.Native.Nat.{ℕ}
use mathlib.Core.Path.{subst}
use Rattle.sets.specs.Settled.{Stored}
use Rattle.sets.proofs.store_group.Goals as goal

pub returns : goal.returns
returns c = (
  subst (λ (h : ℕ). Stored c.args.arrays.now.own.now c.args.arrays.now.slots.now h c.args.mask c.args.table.now c.store_marked.new.table) c.holder_at-k.ensures c.store_marked.ensures.0,
  c.store_marked.ensures.1,
  c.with.ensures,
)
