-- `tielines::stands_up` meets its contract. Assumes nothing.
use Rattle.std.proofs.Common.{arith}
use Rattle.tielines.proofs.TieEditing.{up-stands, no_slot, no_lower}
use Rattle.tielines.proofs.stands_up.Goals as goal

pub returns-in_default : goal.returns-in_default
returns-in_default c t leads S code standing held f = absurd (no_slot _ c.requires c.args.h c.args.g c.in_default.ensures.found t leads S code standing held f)

pub returns-then-h-lt-HOLDERS : goal.returns-then-h-lt-HOLDERS
returns-then-h-lt-HOLDERS c = up-stands _ c.requires c.args.h c.args.g c.in-Some.q c.in-Some.ensures.found c.in-Some.ensures.few _ (omega arith) c.has.ensures

pub returns-else-h-lt-HOLDERS : goal.returns-else-h-lt-HOLDERS
returns-else-h-lt-HOLDERS c t leads S code standing held f = absurd (no_lower _ c.requires c.args.h c.args.g (omega arith) t leads S code standing held f)
