-- `program::row_value` meets its contract. Assumes nothing.
use native.Mathlib.Omega.{arith}
use Rattle.program.specs.TermRows.{lent_by}
use Rattle.program.proofs.RowValues.{compared-row}
use Rattle.program.proofs.row_value.Goals as goal

pub returns-in_default : goal.returns-in_default
returns-in_default c =
    let L = lent_by c.args.lent.now in
    compared-row L c.args.lent.now.rows.now c.args.row c.operand_at-left.result c.operand_at-left.ensures c.compare.result
    c.operand_at-right.result c.operand_at-right.ensures (λ k. omega arith) (λ lo hi. omega arith) c.compare.ensures
