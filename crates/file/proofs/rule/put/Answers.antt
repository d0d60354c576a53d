-- `file::rule::put` meets its contract. Assumes nothing.
use mathlib.Core.Path.{refl}
use Rattle.file.specs.LineSteps.{rule_put}
use Rattle.file.proofs.rule.put.Goals as goal

pub returns : goal.returns
unfolding rule_put
returns c = refl
