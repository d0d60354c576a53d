-- `text::unhex` meets its contract: the pairs passed stand at the front of the output, and what is behind them is kept.
use mathlib.Core.Path.{◌≡◌}
use lib.ListN.{drop}
use Rattle.text.proofs.HexPairs.{so_far}
use Rattle.text.proofs.unhex.Given as goal

abbrev pub invariant-loop-i : goal.invariant-loop-i
invariant-loop-i l = (drop l.i l.out ≡ drop l.i l.initial.out) × so_far l.s l.out l.i
