-- `put_eight` meets its contract: after each turn one byte more is laid, where the word has one more.
use native.Mathlib.Omega.{arith}
use Rattle.output.proofs.EightBytes.{turn}
use Rattle.output.proofs.put_eight.Goals as goal
use Rattle.output.proofs.put_eight.Goals.{then-i-n, else-i-n}

pub loop-i-preserved : goal.loop-i-preserved
loop-i-preserved c =
    elim c.if-i-n.branch [
      | then-i-n w ↦ turn c.width-n.result c.if-i-n.out c.loop-i.invariant c.loop-i-test.true c.width-n.ensures.0 (λ h. w.out-is) (λ h. absurd (omega arith))
      | else-i-n w ↦ turn c.width-n.result c.if-i-n.out c.loop-i.invariant c.loop-i-test.true c.width-n.ensures.0 (λ h. absurd (omega arith)) (λ h. w.out-is)
    ]
