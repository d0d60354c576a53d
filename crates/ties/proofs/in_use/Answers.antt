-- `ties::in_use` meets its contract. Assumes nothing.
use native.Mathlib.Omega.{arith}
use Rattle.std.proofs.lemmas.Grind.{common_steps}
use Rattle.ties.specs.TieArrays.{in_use}
use Rattle.ties.proofs.in_use.Goals as goal

pub returns-then-k-ne0 : goal.returns-then-k-ne0
unfolding in_use
returns-then-k-ne0 c = grind (arith, common_steps)

pub returns-else-k-ne0 : goal.returns-else-k-ne0
unfolding in_use
returns-else-k-ne0 c = grind (arith, common_steps)
