-- `session::Activation::is_held` meets its contract: words that are not those of no pair have some. Assumes nothing.
use mathlib.Core.Path.{◌∙◌}
use borrow.Author.Tests.{ne_eqb}
use Rattle.session.proofs.Words.{not-user, some_pair}
use Rattle.session.proofs.Activation.is_held.Goals as goal

pub returns-then-self-k : goal.returns-then-self-k
returns-then-self-k c =
    c.differs.ensures ∙ some_pair c.args.self.now.attributes.now c.args.self.now.table.now c.args.self.now.user c.args.k c.if-self-k.true c.words_of.result c.words_of.ensures

pub returns-else-self-k : goal.returns-else-self-k
returns-else-self-k c =
    ne_eqb _ 1 c.if-self-k.false ∙ not-user c.args.self.now.attributes.now c.args.self.now.table.now c.args.self.now.user c.args.k c.if-self-k.false
