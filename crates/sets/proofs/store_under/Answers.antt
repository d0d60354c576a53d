-- `sets::store_under` meets its contract: before holder k the parties are stored, and the joins summed. Assumes nothing.
use mathlib.Core.Path.{refl, sym, ◌∙◌}
use native.Mathlib.Omega.{arith}
use Rattle.ties.proofs.Joining.{at_some, at_none, joins-none, joins-more, joins-few}
use Rattle.sets.proofs.Laws.{parties-none, group-no-party, apart-no-party, party-by, party-passed, party-stored}
use Rattle.sets.proofs.store_under.Goals as goal
use Rattle.sets.proofs.store_under.Goals.{then-added-ne0+then-not-is_group, else-added-ne0, else-added-ne0-via-then-added-ne0+else-not-is_group, else-added-ne0-via-else-added-ne0}

pub loop-k-init : goal.loop-k-init
loop-k-init c = (
  c.requires.0.table-long,
  refl,
  parties-none c.args.arrays.now.ups.now c.args.arrays.now.own.now c.args.arrays.now.slots.now c.args.groups.now c.args.below c.args.edited c.args.table.now c.args.marks.now,
  sym (joins-none c.args.arrays.now.ups.now c.args.below c.args.edited),
)

pub overflow_add-joins : goal.overflow_add-joins
overflow_add-joins c =
    record { fits = omega (arith, c.joins_under-added.ensures.1, c.loop-k.invariant.3, joins-few c.args.arrays.now.ups.now c.args.below c.args.edited c.loop-k.k, c.requires.2) }

pub loop-k-preserved : goal.loop-k-preserved
loop-k-preserved c =
    let more = joins-more c.args.arrays.now.ups.now c.args.below c.args.edited c.loop-k.k in
    elim c.if-added-ne0.branch [
      | then-added-ne0+then-not-is_group w ↦ rw (w.table-is, w.marks-is) (
        w.store_marked.auto.table ∙ c.loop-k.invariant.0,
        w.store_marked.auto.marks ∙ c.loop-k.invariant.1,
        party-stored c.loop-k.invariant.2 _ (omega arith) c.loop-k.invariant.0 refl
            (party-by c.args.arrays.now.ups.now c.args.groups.now c.args.below c.args.edited c.loop-k.k
            (at_some c.args.arrays.now.ups.now c.args.below c.args.edited c.loop-k.k (λ z. w.if-added-ne0.true (c.joins_under-added.ensures.0 ∙ z)))
            (sym w.is_group.ensures ∙ w.if-not-is_group.true)) w.store_marked.ensures.0 w.store_marked.ensures.1,
        omega (arith, more, c.joins_under-added.ensures.0, c.loop-k.invariant.3),
      )
      | else-added-ne0 w ↦ rw (w.table-is, w.marks-is) (
        c.loop-k.invariant.0,
        c.loop-k.invariant.1,
        party-passed c.loop-k.invariant.2 (elim w.else-added-ne0.branch [
          | else-added-ne0-via-then-added-ne0+else-not-is_group v ↦
              group-no-party c.args.arrays.now.ups.now c.args.groups.now c.args.below c.args.edited c.loop-k.k (sym v.is_group.ensures ∙ v.if-not-is_group.false)
          | else-added-ne0-via-else-added-ne0 v ↦
              apart-no-party c.args.arrays.now.ups.now c.args.groups.now c.args.below c.args.edited c.loop-k.k
              (at_none c.args.arrays.now.ups.now c.args.below c.args.edited c.loop-k.k (sym c.joins_under-added.ensures.0 ∙ v.if-added-ne0.false))
        ]),
        omega (arith, more, c.joins_under-added.ensures.0, c.loop-k.invariant.3),
      )
    ]
