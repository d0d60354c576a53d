-- `policy::simple_head` meets its contract. Assumes nothing.
use native.Mathlib.Omega.{arith}
use Rattle.policy.proofs.Heads.{simple-neither}
use Rattle.policy.proofs.simple_head.Goals as goal

pub returns-in_default : goal.returns-in_default
returns-in_default c = λ X. simple-neither c.args.code.now c.args.at c.kind_at.result c.kind_at.ensures X (λ k. omega arith) (λ lo hi. omega arith)
