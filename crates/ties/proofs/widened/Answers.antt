-- `ties::widened` meets its contract: of the slots that the walk has passed, those that are to be taken are. Assumes nothing.
use mathlib.Core.Path.{sym, ap, ◌∙◌}
use Prim.Native.Nat.{ℕ}
use Rattle.bits.specs.Bits.{bit}
use Rattle.bits.proofs.Bits.{bit-none}
use Rattle.bits.proofs.Walks.{fewer-left}
use Rattle.ties.proofs.Widening.{left-of, pass-start, pass-end, pass_on, pass-off}
use Rattle.ties.proofs.widened.Goals as goal
use Rattle.ties.proofs.widened.Goals.{then-slot_is_under, else-slot_is_under}

pub loop-left-init : goal.loop-left-init
loop-left-init c =
    pass-start c.args.ups.now c.args.slots.now c.args.e c.args.m _
    (left-of c.args.ups.now c.args.slots.now c.args.e c.args.used c.args.m (bit c.still_left-left.result) c.requires c.still_left-left.ensures)

pub loop-left-smaller : goal.loop-left-smaller
loop-left-smaller c =
    let held = c.lowest-q.ensures.held c.loop-left-test.true in
    fewer-left c.loop-left.left c.without-left.result c.lowest-q.result held.1 c.without-left.ensures held.0

pub loop-left-preserved : goal.loop-left-preserved
loop-left-preserved c =
    elim c.if-slot_is_under.branch [
      | then-slot_is_under w ↦ rw w.next-is (pass_on c.args.ups.now c.args.slots.now c.args.e c.loop-left.invariant (bit c.without-left.result) c.lowest-q.result c.without-left.ensures w.with-next.result w.with-next.ensures (sym c.slot_is_under.ensures ∙ w.if-slot_is_under.true))
      | else-slot_is_under w ↦ rw w.next-is (pass-off c.args.ups.now c.args.slots.now c.args.e c.loop-left.invariant (bit c.without-left.result) c.lowest-q.result c.without-left.ensures (sym c.slot_is_under.ensures ∙ w.if-slot_is_under.false))
    ]

pub returns : goal.returns
returns c =
    pass-end c.args.ups.now c.args.slots.now c.args.e c.loop-left.invariant (λ q l. ap (λ (w : ℕ). bit w q) c.loop-left-test.false ∙ bit-none q)
