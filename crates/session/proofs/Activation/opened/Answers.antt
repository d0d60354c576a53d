-- `session::Activation::opened` meets its contract. Assumes nothing.
use mathlib.Core.Path.{sym, ◌∙◌}
use Rattle.session.proofs.Words.{opened-some, opened-none}
use Rattle.session.proofs.Activation.opened.Goals as goal

pub returns-in-Some : goal.returns-in-Some
returns-in-Some c = λ p h.
    let self = c.args.self.now in
    c.words_of.ensures p h
    ∙ opened-some self.attributes.now self.table.now self.user self.object self.mask c.args.k p c.in-Some.holder (sym c.in-Some.is ∙ c.holder_for.ensures)

pub returns-in-None : goal.returns-in-None
returns-in-None c = λ p h.
    let self = c.args.self.now in
    opened-none self.attributes.now self.table.now self.user self.object self.mask c.args.k p (sym c.in-None.is ∙ c.holder_for.ensures) h
