-- `book::find::pair_number` meets its contract. Assumes nothing.
use native.Mathlib.Omega.{arith}
use Rattle.std.proofs.lemmas.Option.{IfSome_then}
use Rattle.book.proofs.Finding.{pair_found}
use Rattle.book.proofs.find.pair_number.Goals as goal

pub returns : goal.returns
returns c =
    (IfSome_then c.find.result c.find.ensures.within (λ p low. omega (arith, c.requires.0)), pair_found _ _ _ _ c.find.ensures)
