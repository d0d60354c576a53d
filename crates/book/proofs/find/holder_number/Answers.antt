-- `book::find::holder_number` meets its contract. Assumes nothing.
use native.Mathlib.Omega.{arith}
use Rattle.std.proofs.lemmas.Option.{IfSome_then}
use Rattle.book.proofs.Finding.{holder-found}
use Rattle.book.proofs.find.holder_number.Goals as goal

pub returns : goal.returns
returns c =
    (IfSome_then c.find.result c.find.ensures.within (λ k low. omega (arith, c.requires)), holder-found _ _ _ c.find.ensures)
