-- `put` meets its contract: what fits is copied, and the rest lies behind the end.
use native.Mathlib.Omega.{arith}
use Rattle.output.proofs.Laying.{laid-past, laid-copied}
use Rattle.output.proofs.put.Goals as goal

pub returns-then-out-at : goal.returns-then-out-at
returns-then-out-at c = laid-past c.args.out.now c.args.at c.args.text.now _ c.if-out-at.true (omega arith)

pub returns : goal.returns
returns c = laid-copied c.args.out.now c.args.at c.args.text.now c.min-fitting.result _ c.if-out-at.false c.min-fitting.ensures (omega arith) c.copy_from_slice.ensures.after
