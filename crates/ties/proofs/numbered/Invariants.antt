-- `ties::numbered` meets its contract: the mask has the slots passed that have a number. Assumes nothing.
use Rattle.ties.specs.TieArrays.{HasNumbered}
use Rattle.ties.proofs.numbered.Given as goal

abbrev pub invariant-loop-q : goal.invariant-loop-q
invariant-loop-q l = HasNumbered l.slots l.q l.mask
