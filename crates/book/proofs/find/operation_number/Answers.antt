-- `book::find::operation_number` meets its contract: the row that is found is the first with that name. Assumes nothing.
use Rattle.std.proofs.Common.{◌≡◌, ◌*◌, true, false, rules, tests}
use Rattle.std.proofs.lemmas.Iterator.{first_from_Range}
use Rattle.text.specs.Packing.{packed_at}
use Rattle.book.proofs.Finding.{operation-found}
use Rattle.book.proofs.find.operation_number.Goals as goal

pub returns : goal.returns
returns c =
    operation-found _ _ _
    (first_from_Range _ _ _ _ (λ i. packed_at c.args.operations.now (2 * i) c.args.name.low c.args.name.high ≡ true)
    (λ i. packed_at c.args.operations.now (2 * i) c.args.name.low c.args.name.high ≡ false) c.find.ensures.ran
    (λ i q k. search (rules, tests))
    (λ i q k. search (rules, tests)))
