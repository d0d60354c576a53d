-- `session::Activation::words_of` meets its contract. Assumes nothing.
use Rattle.std.proofs.Common.{rules}
use Rattle.bits.proofs.Sets.{four}
use Rattle.session.proofs.Words.{no_words, common-words}
use Rattle.session.proofs.Activation.words_of.Goals as goal

pub returns-then-self-holder : goal.returns-then-self-holder
returns-then-self-holder c =
    λ p h. no_words c.args.self.now.attributes.now c.args.self.now.table.now c.args.holder c.args.k p h c.if-self-holder.true

pub returns : goal.returns
returns c =
    λ p h. common-words c.args.self.now.attributes.now c.args.self.now.table.now c.args.holder c.args.k p h c.from_fn.result c.if-self-holder.false
    (four _ (search rules) (search rules) (search rules) (search rules))
