-- `office::input::split` meets its contract: all lines passed are file.
use lib.ListN.{length}
use Rattle.office.proofs.InputLines.{SoFar}
use Rattle.office.proofs.input.split.Given as goal

abbrev pub invariant-loop-line : goal.invariant-loop-line
invariant-loop-line l = SoFar l.input l.file l.commands.rest.now

abbrev pub decreases-loop-line : goal.decreases-loop-line
decreases-loop-line l = length l.commands.rest.now
