-- `add_groups` meets its contract.
use Rattle.bits.proofs.Walks.{fewer-left}
use Rattle.writer.proofs.TieTexts.{groups-start, groups-step, groups-end}
use mathlib.Core.Path.{sym, ◌∙◌}
use native.Mathlib.Omega.{arith}
use Rattle.writer.proofs.tie.add_groups.Goals as goal

pub loop-left-init : goal.loop-left-init
loop-left-init c = groups-start c.args.slots.now c.args.mask c.args.groups.now c.requires.0

pub offset_bounds-slots-q : goal.offset_bounds-slots-q
offset_bounds-slots-q c = omega (arith, c.lowest-q.ensures.held c.loop-left-test.true)

pub bounds-slots-q : goal.bounds-slots-q
bounds-slots-q c = omega (arith, c.lowest-q.ensures.held c.loop-left-test.true, c.requires.1)

pub add_group-requires : goal.add_group-requires
add_group-requires c = c.loop-left.invariant.long

pub without-left-requires : goal.without-left-requires
without-left-requires c = (c.lowest-q.ensures.held c.loop-left-test.true).0

pub loop-left-smaller : goal.loop-left-smaller
loop-left-smaller c =
    let held = c.lowest-q.ensures.held c.loop-left-test.true in
    fewer-left c.loop-left.left c.without-left.result c.lowest-q.result held.1 c.without-left.ensures held.0

pub loop-left-preserved : goal.loop-left-preserved
loop-left-preserved c =
    let held = c.lowest-q.ensures.held c.loop-left-test.true in
    groups-step c.loop-left.invariant c.without-left.result c.lowest-q.result held.1 c.without-left.ensures held.0 c.add_group.ensures

pub shape_of-groups : goal.shape_of-groups
shape_of-groups c = c.loop-left.invariant.long ∙ sym c.requires.0

pub returns : goal.returns
returns c = groups-end c.loop-left.invariant c.loop-left-test.false
