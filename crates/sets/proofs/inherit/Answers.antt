-- `sets::inherit` meets its contract: holder k's words are lent. Assumes nothing.
use mathlib.Core.Path.{sym, ap, ◌∙◌}
use mathlib.Core.Bool.{Bool, ◌||◌, or-false}
use Rattle.bits.specs.Bits.{member}
use Rattle.bits.proofs.Sets.{member-part}
use Rattle.sets.proofs.LentSets.{holds-past}
use native.Mathlib.Omega.{arith}
use Rattle.sets.proofs.inherit.Goals as goal

pub returns-then-k-table : goal.returns-then-k-table
returns-then-k-table c p h =
    sym (ap (λ (b : Bool). member c.args.sum p || b) (holds-past c.args.table.now c.args.k p (omega arith)) ∙ or-false (member c.args.sum p))

pub returns : goal.returns
returns c p h =
    rw (← member-part c.args.table.now c.args.k p h) (c.joined.ensures p h)
