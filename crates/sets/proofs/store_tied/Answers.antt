-- `sets::store_tied` meets its contract: before holder k those that have a tie are stored. Assumes nothing.
use mathlib.Core.Path.{refl, ◌∙◌}
use native.Mathlib.Omega.{arith}
use Rattle.sets.proofs.Laws.{tied-passed, tied-stored}
use Rattle.sets.proofs.store_tied.Goals as goal
use Rattle.sets.proofs.store_tied.Goals.{then-up-ne0, else-up-ne0}

pub loop-k-preserved : goal.loop-k-preserved
loop-k-preserved c =
    elim c.if-up-ne0.branch [
      | then-up-ne0 w ↦ rw w.table-is (
        w.store.auto.table ∙ c.loop-k.invariant.0,
        tied-stored c.loop-k.invariant.1 _ (omega arith) c.loop-k.invariant.0 refl w.store.ensures.0,
      )
      | else-up-ne0 w ↦ rw w.table-is (c.loop-k.invariant.0, tied-passed c.loop-k.invariant.1 w.if-up-ne0.false)
    ]
