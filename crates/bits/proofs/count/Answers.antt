-- `bits::count` meets its contract: the sum counts the numbers in the words passed. Assumes nothing.
use Prim.Native.Nat.{ℕ, ◌*◌}
use mathlib.Core.Path.{◌≡◌, refl, ap, ◌∙◌}
use native.Mathlib.Omega.{arith}
use lib.ListN.{length, get_or}
use Rattle.bits.specs.Bits.{bit, member, count_below}
use Rattle.bits.proofs.Counts.{words_more, count-below-le}
use Rattle.bits.proofs.count.Goals as goal

pub loop-word-init : goal.loop-word-init
unfolding count_below
loop-word-init c = refl

pub overflow_add-sum : goal.overflow_add-sum
overflow_add-sum c =
    omega (arith, c.loop-word.invariant, count-below-le (64 * c.loop-word.word-index) (member c.args.set.now), count-below-le 64 (bit (get_or c.args.set.now c.loop-word.word-index 0)), c.ones-sum.ensures)

pub loop-word-preserved : goal.loop-word-preserved
loop-word-preserved c = omega (arith, words_more c.args.set.now c.loop-word.word-index, c.ones-sum.ensures, c.loop-word.invariant)

pub returns : goal.returns
returns c =
    let e : c.loop-word.word-index ≡ length c.args.set.now = omega arith in
    c.loop-word.invariant ∙ ap (λ (n : ℕ). count_below (64 * n) (member c.args.set.now)) e
