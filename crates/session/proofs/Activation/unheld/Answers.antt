-- `session::Activation::unheld` meets its contract: what the walk has left tells the same as the mask. Assumes nothing.
use Prim.Native.Nat.{ℕ, ◌<◌}
use native.Mathlib.Omega.{arith}
use native.Mathlib.Decide.{dec_lt}
use mathlib.Core.Path.{◌≡◌, sym, ap, ◌∙◌}
use mathlib.Core.Bool.{true, not, ◌&&◌, true≢false}
use Rattle.model.proofs.Options.{both}
use Rattle.bits.specs.Bits.{bit, any_below}
use Rattle.bits.proofs.Bits.{bit_high}
use Rattle.bits.proofs.Counts.{find-any}
use Rattle.bits.proofs.Walks.{fewer-left, none_left}
use Rattle.session.specs.Words.{held_in}
use Rattle.session.proofs.Activation.unheld.Goals as goal

pub loop-left-init : goal.loop-left-init
loop-left-init c =
    (λ j e. go j e (dec_lt j 32), ap (λ (m : ℕ). any_below 32 (λ k. bit m k && not (held_in c.args.self.now.attributes.now c.args.self.now.table.now c.args.self.now.user k))) c.from-left.ensures)
  where
    go : (j : ℕ) → bit c.from-left.result j ≡ true → Dec (j < 32) → j < 32
    go j e (yes l) = l
    go j e (no l) = absurd (true≢false (sym e ∙ bit_high 32 c.from-left.result j (omega (arith, c.from-left.ensures)) (omega arith)))

pub returns-then-not-is_held : goal.returns-then-not-is_held
returns-then-not-is_held c =
    let on = (c.lowest-k.ensures.held c.loop-left-test.true).1 in
    sym (find-any 32 (λ j. bit c.loop-left.left j && not (held_in c.args.self.now.attributes.now c.args.self.now.table.now c.args.self.now.user j)) c.lowest-k.result (c.loop-left.invariant.0 c.lowest-k.result on)
    (both on (sym (ap not c.is_held.ensures) ∙ ap not c.if-not-is_held.true)))
    ∙ c.loop-left.invariant.1

pub loop-left-smaller : goal.loop-left-smaller
loop-left-smaller c =
    let held = c.lowest-k.ensures.held c.loop-left-test.true in
    fewer-left c.loop-left.left c.without-left.result c.lowest-k.result held.1 c.without-left.ensures held.0

pub returns : goal.returns
returns c =
    sym (none_left c.loop-left.left 32 (λ k. not (held_in c.args.self.now.attributes.now c.args.self.now.table.now c.args.self.now.user k)) c.loop-left-test.false) ∙ c.loop-left.invariant.1
