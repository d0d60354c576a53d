-- `tokens::encode` meets its contract: the code of the tokens that were passed is written.
use Prim.Native.Nat.{◌-◌}
use lib.ListN.{length}
use Rattle.tokens.proofs.Passed.{Passed}
use Rattle.tokens.proofs.encode.Given as goal

abbrev pub invariant-loop-at : goal.invariant-loop-at
invariant-loop-at l = Passed l.s l.attributes l.initial.code l.code l.at l.len l.unknown

abbrev pub decreases-loop-at : goal.decreases-loop-at
decreases-loop-at l = length l.s - l.at
