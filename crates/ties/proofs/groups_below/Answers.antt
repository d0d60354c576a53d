-- `ties::groups_below` meets its contract: what is marked is below, the mask grows, and where it does not it has all. Assumes nothing.
use Rattle.bits.specs.Bits.{bit}
use Rattle.bits.proofs.Counts.{count-below-le}
use Rattle.ties.proofs.Widening.{grows-more, none-sound, marks}
use native.Mathlib.Omega.{arith}
use Rattle.ties.proofs.groups_below.Goals as goal

pub loop-next-init : goal.loop-next-init
loop-next-init c =
    (omega arith, c.widened-next.type_inv, none-sound c.args.ups.now c.args.slots.now c.args.e, c.widened-next.ensures)

pub loop-next-smaller : goal.loop-next-smaller
loop-next-smaller c =
    let more = grows-more c.loop-next.m c.loop-next.next c.loop-next.invariant.0 c.loop-next.invariant.1 c.loop-next.invariant.3.grows c.loop-next-test.true in
    omega (arith, more, count-below-le 64 (bit c.loop-next.next))

pub returns : goal.returns
returns c =
    marks c.args.ups.now c.args.slots.now c.args.e c.loop-next.m c.loop-next.next c.loop-next-test.false c.loop-next.invariant.2 c.loop-next.invariant.3
