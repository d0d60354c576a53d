-- `rows::attribute_number` meets its contract: the row that is found is the first with that source and name.
use Rattle.std.proofs.Common.{◌≡◌, true, false, rules, tests}
use Rattle.std.proofs.lemmas.Iterator.{first_from_Range}
use Rattle.rows.specs.Rows.{row_named}
use Rattle.rows.proofs.RowsOfAttributes.{first-numbered}
use Rattle.rows.proofs.attribute_number.Goals as goal

pub returns : goal.returns
returns c =
    first-numbered _ _ _ _
    (first_from_Range _ _ _ _ (λ i. row_named c.args.attributes.now c.args.source c.args.name.low c.args.name.high i ≡ true)
    (λ i. row_named c.args.attributes.now c.args.source c.args.name.low c.args.name.high i ≡ false) c.find.ensures.ran
    (λ i q k. search (rules, tests))
    (λ i q k. search (rules, tests)))
