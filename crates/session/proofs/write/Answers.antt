-- `session::write` meets its contract: the words passed stand in their places, and the others as before. Assumes nothing.
use native.Mathlib.Omega.{arith}
use Rattle.session.proofs.Words.{words-written}
use Rattle.session.proofs.write.Goals as goal

pub returns : goal.returns
returns c = words-written c.args.session.now c.loop-i.session c.args.words c.args.k (λ j h. c.loop-i.invariant.0 j (omega arith)) c.loop-i.invariant.1
