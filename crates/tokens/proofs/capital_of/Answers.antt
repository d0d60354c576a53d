-- `tokens::capital_of` meets its contract: the kind of a word stands at its place.
use mathlib.Core.Path.{refl, sym, ap, ◌∙◌}
use mathlib.Core.List.{◌∷◌}
use Rattle.std.specs.Prelude.{option_map}
use lib.ListN.{get_or}
use Rattle.model.specs.Notation.{map}
use Rattle.model.specs.Tokens.{spelling, capitals}
use Rattle.codes.specs.Codes.{kind_of}
use Rattle.text.proofs.Keywords.{keyword-code}
use Rattle.tokens.proofs.capital_of.Goals as goal

pub returns-in_err-place : goal.returns-in_err-place
returns-in_err-place c =
    c.from_residual.ensures
    ∙ ap (option_map (λ i. get_or (0 ∷ map kind_of capitals) i 0)) (sym c.in_err-place.was) ∙ keyword-code spelling kind_of c.keyword.ensures capitals refl refl

pub returns : goal.returns
returns c =
    ap (option_map (λ i. get_or (0 ∷ map kind_of capitals) i 0)) (sym c.in_ok-place.was) ∙ keyword-code spelling kind_of c.keyword.ensures capitals refl refl
