-- `session::Activation::open` meets its contract: the words of the attributes passed are opened. Assumes nothing.
use Rattle.session.specs.Words.{OpenedFirst}
use Rattle.session.proofs.Activation.open.Given as goal

abbrev pub invariant-loop-k : goal.invariant-loop-k
invariant-loop-k l = OpenedFirst l.self.attributes.now l.self.table.now l.self.user l.self.object l.self.mask l.k l.initial.session l.session
