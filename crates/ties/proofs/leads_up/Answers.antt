-- `ties::leads_up` meets its contract: what is done is not e, and what lies one tie further up is done or left. Assumes nothing.
use mathlib.Core.Path.{ap, ◌∙◌}
use Prim.Native.Nat.{ℕ}
use lib.ListN.{get_or}
use Rattle.ties.proofs.Climbing.{climb-start, climb-none, climb-less, climb-turn}
use Rattle.ties.proofs.leads_up.Goals as goal

pub loop-left-init : goal.loop-left-init
loop-left-init c =
    climb-start c.args.ups.now c.args.slots.now c.args.k c.args.e c.ties_up-left.result c.ties_up-left.ensures

pub loop-left-smaller : goal.loop-left-smaller
loop-left-smaller c =
    let held = c.lowest-q.ensures.held c.loop-left-test.true in
    climb-less c.args.ups.now c.args.slots.now c.args.k c.args.e c.loop-left.invariant c.lowest-q.result held.0 held.1
    c.with-done.result c.with-done.ensures

pub loop-left-preserved : goal.loop-left-preserved
loop-left-preserved c =
    let held = c.lowest-q.ensures.held c.loop-left-test.true in
    climb-turn c.args.ups.now c.args.slots.now c.args.k c.args.e c.loop-left.invariant c.lowest-q.result held.0 held.1
    c.with-done.result c.with-done.ensures c.ties_up-up.result c.still_left-left.result (λ at. c.if-h-e.false (c.holder_at-h.ensures ∙ at))
    (c.ties_up-up.ensures ∙ ap (λ (x : ℕ). get_or c.args.ups.now x 0) c.holder_at-h.ensures) c.still_left-left.ensures

pub returns : goal.returns
returns c =
    climb-none c.args.ups.now c.args.slots.now c.args.k c.args.e c.loop-left.invariant c.loop-left-test.false
