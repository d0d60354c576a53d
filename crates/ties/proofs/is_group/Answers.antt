-- `ties::is_group` meets its contract. Assumes nothing.
use native.Mathlib.Omega.{arith}
use Rattle.std.proofs.lemmas.Grind.{common_steps}
use Rattle.ties.specs.TieArrays.{grouped}
use Rattle.ties.proofs.is_group.Goals as goal

pub returns : goal.returns
unfolding grouped
returns c = grind (arith, common_steps)
