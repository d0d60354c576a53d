-- `program::passed` meets its contract. Assumes nothing.
use mathlib.Core.Path.{sym, subst}
use native.Mathlib.Omega.{arith}
use Rattle.program.specs.Walks.{WalkIs}
use Rattle.program.proofs.Levels.{passed-other}
use Rattle.program.proofs.passed.Goals as goal

pub returns-in_default : goal.returns-in_default
returns-in_default c = λ w is few.
    subst (WalkIs c.args.w)
    (sym (passed-other c.args.kind w (λ k. omega arith) (λ k. omega arith) (λ k. omega arith) (λ k. omega arith))) is
