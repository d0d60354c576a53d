-- `sets::gather` meets its contract: the sum has the pairs of the groups that the walk has passed. Assumes nothing.
use mathlib.Core.Path.{sym, ap, ◌∙◌}
use mathlib.Core.Bool.{Bool, ◌&&◌, ◌||◌, or-false, or_assoc}
use Prim.Native.Nat.{ℕ}
use lib.ListN.{get_or}
use Rattle.bits.specs.Bits.{bit, member, holds, any_below}
use Rattle.bits.proofs.Sets.{member-none}
use Rattle.bits.proofs.Walks.{any_left, fewer-left, none_left}
use Rattle.sets.proofs.gather.Goals as goal

pub loop-above-init : goal.loop-above-init
loop-above-init c p h =
    ap (λ (b : Bool). b || any_below 64 (λ q. bit c.args.mask q && holds c.args.table.now (get_or c.args.slots.now q 0) p)) (member-none p h)

pub loop-above-smaller : goal.loop-above-smaller
loop-above-smaller c =
    let held = c.lowest-q.ensures.held c.loop-above-test.true in
    fewer-left c.loop-above.above c.without-above.result c.lowest-q.result held.1 c.without-above.ensures held.0

pub loop-above-preserved : goal.loop-above-preserved
loop-above-preserved c p h =
    let q = c.lowest-q.result in
    let held = c.lowest-q.ensures.held c.loop-above-test.true in
    let f : ℕ → Bool = λ q. holds c.args.table.now (get_or c.args.slots.now q 0) p in
    let rest : Bool = any_below 64 (λ q. bit c.without-above.result q && f q) in
    ap (λ (b : Bool). b || rest) (c.inherit-next.ensures p h ∙ ap (λ (k : ℕ). member c.loop-above.sum p || holds c.args.table.now k p) c.holder_at.ensures)
    ∙ or_assoc (member c.loop-above.sum p) (f q) rest
    ∙ ap (λ (b : Bool). member c.loop-above.sum p || b) (sym (any_left c.loop-above.above c.without-above.result q held.1 c.without-above.ensures 64 f held.0))
    ∙ c.loop-above.invariant p h

pub returns : goal.returns
returns c p h =
    sym (ap (λ (b : Bool). member c.loop-above.sum p || b) (none_left c.loop-above.above 64 (λ q. holds c.args.table.now (get_or c.args.slots.now q 0) p) c.loop-above-test.false) ∙ or-false (member c.loop-above.sum p))
    ∙ c.loop-above.invariant p h
