-- `policy::var_at` meets its contract. Assumes nothing.
use mathlib.Core.Path.{◌∙◌}
use native.Mathlib.Omega.{arith}
use Rattle.policy.proofs.VarsInCode.{var-constant, var-name}
use Rattle.policy.proofs.var_at.Goals as goal

pub returns-in-4 : goal.returns-in-4
returns-in-4 c =
    var-name c.args.code.now c.args.at c.kind_at-kind.result c.kind_at-kind.ensures c.in-4.is
    c.from-number.result (c.from-number.ensures ∙ c.kind_at.ensures) (omega arith)

pub returns-in-1-to-2 : goal.returns-in-1-to-2
returns-in-1-to-2 c =
    var-constant c.args.code.now c.args.at c.kind_at-kind.result c.kind_at-kind.ensures (omega arith) (omega arith)
    c.constant_end-end.result c.constant_end-end.ensures
