-- `text::is_decimal` meets its contract.
use mathlib.Core.Path.{◌∙◌}
use mathlib.Core.Logic.{inl, inr}
use borrow.Author.Tests.{tests}
use Rattle.std.proofs.Common.{rules}
use Rattle.std.proofs.lemmas.Iterator.{YieldsList-from_slice}
use Rattle.std.proofs.lemmas.Iterator.Search.{all_from_yields_List}
use Rattle.model.proofs.Decimals.{digit}
use Rattle.text.proofs.LoopPlaces.{all-listed}
use Rattle.text.proofs.DecimalDigits.{decimal-by}
use Rattle.text.proofs.is_decimal.Goals as goal
use Rattle.text.proofs.is_decimal.Goals.{in_default-via-then-s-lt2, in_default-via-else-s-lt2+in_default-1}

pub returns-in_default : goal.returns-in_default
returns-in_default c =
    let e = all_from_yields_List digit _ _ c.all.result c.all.ensures.ran (YieldsList-from_slice c.args.s.now cc) (λ x b q k. search (rules, tests)) ∙ all-listed digit c.args.s.now in
    elim c.in_default.branch [
      | in_default-via-then-s-lt2 w ↦ decimal-by c.args.s.now c.all.result (search rules) (inl (search rules)) e
      | in_default-via-else-s-lt2+in_default-1 w ↦ decimal-by c.args.s.now c.all.result (search rules) (inr (search rules)) e
    ]
