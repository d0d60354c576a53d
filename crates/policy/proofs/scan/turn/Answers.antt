-- `policy::scan::turn` meets its contract. Assumes nothing.
use Rattle.policy.specs.declared.scan.Stand.TheVariants.{Before}
use Rattle.policy.specs.Scans.{OpenWithin, Turns}
use mathlib.Core.Path.{sym, subst}
use Rattle.policy.proofs.Turns.{head-turn, turned}
use Rattle.policy.proofs.scan.turn.Goals as goal

pub returns-in-Before : goal.returns-in-Before
returns-in-Before c =
    turned c.args.code.now c.args.s (Before c.in-Before.x) c.behind_head.result c.in-Before.is
    (subst (Turns c.args.code.now (Before c.in-Before.x)) (sym c.behind_head.ensures)
    (head-turn c.args.code.now c.in-Before.x c.term_head.result c.term_head.ensures (subst OpenWithin c.in-Before.is c.requires)))
