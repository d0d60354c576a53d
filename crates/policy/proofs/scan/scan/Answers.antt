-- `policy::scan::scan` meets its contract. The loop's invariant: what is left comes to the counts of the whole. Assumes nothing.
use Rattle.policy.proofs.Turns.{scan_begins}
use borrow.Author.Rules.{rules}
use Rattle.policy.proofs.scan.scan.Goals as goal

pub loop-s-init : goal.loop-s-init
loop-s-init c = (search rules, λ A ts f. scan_begins c.args.code.now A ts f)
