-- `bits::differs` meets its contract: the words are not the same. Assumes nothing.
use mathlib.Core.Path.{◌∙◌}
use Rattle.std.proofs.Common.{rules}
use Rattle.bits.proofs.Sets.{lists-differ}
use Rattle.bits.proofs.differs.Goals as goal

pub returns : goal.returns
returns c = c.ne.ensures ∙ lists-differ _ _ c.requires.0 c.requires.1 (search rules) (search rules)
