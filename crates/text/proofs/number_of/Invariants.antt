-- `text::number_of` meets its contract: the number of all is the number read so far with what is left, and it only grows.
use Prim.Native.Nat.{◌≤◌}
use mathlib.Core.Path.{◌≡◌}
use lib.ListN.{drop}
use Rattle.model.specs.Atoms.{number_from}
use Rattle.text.proofs.number_of.Given as goal

abbrev pub invariant-loop-b : goal.invariant-loop-b
invariant-loop-b l = (l.n ≤ 4294967295) × (number_from 0 l.s ≡ number_from l.n (drop l.b-index l.s))
