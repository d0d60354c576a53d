-- `program::operand_at` meets its contract. Assumes nothing.
use Prim.Native.Nat.{ℕ, ◌+◌}
use mathlib.Core.Path.{ap₂}
use lib.ListN.{get_or}
use Rattle.values.specs.Operands.{operand}
use Rattle.program.specs.TermRows.{operand_at}
use Rattle.program.proofs.operand_at.Goals as goal

pub returns : goal.returns
unfolding operand_at
returns c =
    ap₂ (λ (x y : ℕ). operand (get_or c.args.rows.now c.args.at 0) (get_or c.args.rows.now (c.args.at + 1) 0) x y) c.two.ensures.0 c.two-2.ensures.0
