-- `tokens::word_in` meets its contract.
use mathlib.Core.Path.{sym, ◌∙◌}
use Rattle.tokens.proofs.WordCodes.{capital, no-capital, number, attribute}
use Rattle.tokens.proofs.word_in.Goals as goal

pub returns-in-Some : goal.returns-in-Some
returns-in-Some c = capital c.args.w.now c.in-Some.kind (sym c.in-Some.is ∙ c.capital_of.ensures)

pub returns-in-Some-int_of : goal.returns-in-Some-int_of
returns-in-Some-int_of c =
    number c.args.w.now (no-capital c.args.w.now (sym c.in_default.is ∙ c.capital_of.ensures)) c.in-Some-int_of.n (sym c.in-Some-int_of.is ∙ c.int_of.ensures)

pub returns : goal.returns
returns c =
    c.name_in.ensures
    ∙ attribute c.args.w.now (no-capital c.args.w.now (sym c.in_default.is ∙ c.capital_of.ensures)) (sym c.in_default-int_of.is ∙ c.int_of.ensures)
