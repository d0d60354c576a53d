-- `session::Activation::unheld` meets its contract: what the walk has left tells the same as the mask. Assumes nothing.
use Prim.Native.Nat.{ℕ, ◌<◌}
use mathlib.Core.Path.{◌≡◌}
use mathlib.Core.Bool.{true, not, ◌&&◌}
use Rattle.bits.specs.Bits.{bit, any_below, count_below}
use Rattle.session.specs.Words.{held_in, unheld_in}
use Rattle.session.proofs.Activation.unheld.Given as goal

abbrev pub invariant-loop-left : goal.invariant-loop-left
invariant-loop-left l =
    ((j : ℕ) → bit l.left j ≡ true → j < 32)
    × (any_below 32 (λ k. bit l.left k && not (held_in l.self.attributes.now l.self.table.now l.self.user k)) ≡ unheld_in l.self.attributes.now l.self.table.now l.self.user l.self.mask)

abbrev pub decreases-loop-left : goal.decreases-loop-left
decreases-loop-left l = count_below 64 (bit l.left)
