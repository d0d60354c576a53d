-- `sets::settle_groups` meets its contract: the groups that the walk has passed are settled. Assumes nothing.
use mathlib.Core.Path.{refl, sym, ap, ◌∙◌}
use Prim.Native.Nat.{ℕ, ◌<◌}
use borrow.Author.Tests.{not-false}
use Rattle.bits.specs.Bits.{bit}
use Rattle.bits.proofs.Bits.{bit-none, bit_not}
use Rattle.bits.proofs.Walks.{fewer-left}
use Rattle.sets.proofs.Laws.{settled-none, settled-less, turn, deep-start}
use Rattle.sets.proofs.settle_groups.Goals as goal

pub loop-left-init : goal.loop-left-init
loop-left-init c =
    (c.requires.0.table-long, refl, settled-none _ _ _ _ _ (λ dp g l u w. not-false (bit c.args.done g) (sym (bit_not 64 c.args.done g c.ranges.done.fits l) ∙ w.1)))

pub loop-left-smaller : goal.loop-left-smaller
loop-left-smaller c =
    let held = c.lowest-g.ensures.held c.loop-left-test.true in
    fewer-left c.loop-left.left c.without-left.result c.lowest-g.result held.1 c.without-left.ensures held.0

pub loop-left-preserved : goal.loop-left-preserved
loop-left-preserved c =
    let held = c.lowest-g.ensures.held c.loop-left-test.true in (
      c.settle-seen.auto.table ∙ c.loop-left.invariant.0,
      c.settle-seen.auto.marks ∙ c.loop-left.invariant.1,
      turn (λ q. q < 64) c.loop-left.left c.lowest-g.result c.without-left.result c.without-left.ensures c.loop-left.invariant.2 c.settle-seen.ensures.0
          (deep-start c.args.arrays.now.ups.now c.args.arrays.now.slots.now c.lowest-g.result held.0),
    )

pub returns : goal.returns
returns c = settled-less (λ g. g < 64) c.loop-left.invariant.2 (λ g l. (l, ap (λ (w : ℕ). bit w g) c.loop-left-test.false ∙ bit-none g))
