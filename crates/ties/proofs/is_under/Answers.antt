-- `ties::is_under` meets its contract. Assumes nothing.
use native.Mathlib.Omega.{arith}
use Rattle.std.proofs.lemmas.Grind.{common_steps}
use Rattle.ties.specs.TieArrays.{under}
use Rattle.ties.proofs.is_under.Goals as goal

pub returns-then-k-e : goal.returns-then-k-e
unfolding under
returns-then-k-e c = grind (arith, common_steps)

pub returns-else-k-e : goal.returns-else-k-e
unfolding under
returns-else-k-e c = grind (arith, common_steps)
