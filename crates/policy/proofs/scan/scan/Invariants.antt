-- `policy::scan::scan` meets its contract. The loop's invariant: what is left comes to the counts of the whole. Assumes nothing.
use mathlib.Core.List.{List}
use Rattle.model.specs.Tokens.{Token}
use Rattle.policy.specs.Readers.{Asked, From}
use Rattle.policy.specs.Scans.{Left, OpenWithin, turns_left}
use Rattle.policy.proofs.ScannedTokens.{scanned}
use Rattle.policy.proofs.scan.scan.Given as goal

abbrev pub invariant-loop-s : goal.invariant-loop-s
invariant-loop-s l = OpenWithin l.s × ((A : Asked) (ts : List Token) → From l.code A 0 ts → Left l.code A l.s (scanned ts))

abbrev pub decreases-loop-s : goal.decreases-loop-s
decreases-loop-s l = turns_left l.code l.s
