-- `sets::refresh_alone` meets its contract: one set is stored, its mark counted, and its joins told. Assumes nothing.
use Prim.Native.Nat.{ℕ}
use mathlib.Core.Path.{ap, subst, ◌∙◌}
use native.Mathlib.Omega.{arith}
use Rattle.ties.specs.TieJoins.{joins_by}
use Rattle.sets.specs.Settled.{Stored}
use Rattle.sets.proofs.Telling.{counted-alone}
use Rattle.sets.proofs.refresh_alone.Goals as goal

pub returns : goal.returns
returns c = (
  subst (λ (m : ℕ). Stored c.args.arrays.now.own.now c.args.arrays.now.slots.now c.args.edited m c.args.table.now c.store-is_changed.new.table) c.ties_up-up.ensures c.store-is_changed.ensures.0,
  c.ones.ensures
      ∙ counted-alone c.store-is_changed.ensures.0 c.store-is_changed.auto.table (omega (arith, c.requires.0.table-long, c.requires.1)) c.put-mark.result c.store-is_changed.result c.store-is_changed.ensures.1 c.put-mark.ensures,
  c.joins.ensures.0 ∙ ap joins_by c.ties_up-up.ensures,
)
