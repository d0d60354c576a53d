-- `policy::set_var` meets its contract. Assumes nothing.
use mathlib.Core.Path.{sym, subst}
use native.Mathlib.Omega.{arith}
use Rattle.policy.specs.Readers.{SetVars}
use Rattle.policy.proofs.VarsInCode.{set-none, set-off, set_on}
use Rattle.policy.proofs.set_var.Goals as goal

pub returns-in_err-constants-in-1-to-2 : goal.returns-in_err-constants-in-1-to-2
returns-in_err-constants-in-1-to-2 c =
    subst (SetVars c.args.code.now c.args.at) (sym c.from_residual.ensures)
    (set-off c.args.code.now c.args.at c.kind_at-kind.result c.kind_at-kind.ensures (omega arith) (omega arith) c.in_err-constants-in-1-to-2.ensures)

pub returns-in_ok-constants-in-1-to-2 : goal.returns-in_ok-constants-in-1-to-2
returns-in_ok-constants-in-1-to-2 c =
    set_on c.args.code.now c.args.at c.kind_at-kind.result c.kind_at-kind.ensures (omega arith) (omega arith)
    c.in_ok-constants-in-1-to-2.constants c.in_ok-constants-in-1-to-2.ensures

pub returns-in_default : goal.returns-in_default
returns-in_default c = set-none c.args.code.now c.args.at c.kind_at-kind.result c.kind_at-kind.ensures (λ lo hi. omega arith)

pub returns-in_default-2 : goal.returns-in_default-2
returns-in_default-2 c = set-none c.args.code.now c.args.at c.kind_at-kind.result c.kind_at-kind.ensures (λ lo hi. omega arith)
