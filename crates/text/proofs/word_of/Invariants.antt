-- `text::word_of` meets its contract: w is the number of what stands behind the bytes that are left.
use mathlib.Core.Path.{◌≡◌}
use mathlib.Core.List.{◌++◌}
use lib.ListN.{length, drop}
use Rattle.model.specs.Block.{number}
use Rattle.text.proofs.word_of.Given as goal

abbrev pub invariant-loop-b : goal.invariant-loop-b
invariant-loop-b l =
    (l.s ≡ l.b-iterator.iter.rest.now ++ drop (length l.b-iterator.iter.rest.now) l.s) × (l.w ≡ number (drop (length l.b-iterator.iter.rest.now) l.s))
