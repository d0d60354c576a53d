-- `row_of_pair` meets its contract.
use Prim.Native.Nat.{ℕ, ◌+◌, ◌-◌, ◌*◌, ◌%◌}
use mathlib.Core.Path.{ap}
use native.Mathlib.Omega.{arith}
use Rattle.spelling.proofs.line.row_of_pair.Goals as goal

pub returns : goal.returns
returns c =
    (ap (λ (k : ℕ). 8 + 8 * (k % 64) - 8) c.word-number.ensures, omega arith)
