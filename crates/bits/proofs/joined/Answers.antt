-- `bits::joined` meets its contract: word by word. Assumes nothing.
use Rattle.std.proofs.Common.{rules}
use Rattle.bits.proofs.Sets.{member-or}
use Rattle.bits.proofs.joined.Goals as goal

pub returns : goal.returns
returns c p h = member-or _ _ _ (λ j l. let (x, y, k) = c.from_fn.ensures.items.at j 0 l in search rules) p h
