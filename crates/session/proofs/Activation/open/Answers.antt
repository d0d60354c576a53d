-- `session::Activation::open` meets its contract: the words of the attributes passed are opened. Assumes nothing.
use Rattle.session.proofs.Words.{one_more}
use Rattle.session.proofs.Activation.open.Goals as goal

pub loop-k-preserved : goal.loop-k-preserved
loop-k-preserved c =
    let self = c.args.self.now in
    one_more self.attributes.now self.table.now self.user self.object self.mask c.loop-k.k c.args.session.now c.loop-k.session _ c.opened.result
    c.opened.ensures c.write.ensures c.loop-k.invariant
