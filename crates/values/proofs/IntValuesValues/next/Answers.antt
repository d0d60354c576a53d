-- `values::IntValues::next` meets its contract. Assumes nothing.
use mathlib.Core.Path.{◌≡◌}
use borrow.Author.Rules.{rules}
use Rattle.std.specs.Prelude.{Option, None}
use Rattle.values.specs.declared.Found.{Found}
use Rattle.values.proofs.Chosen.{found-none, found_some}
use Rattle.values.proofs.Constants.{ints-find}
use Rattle.values.proofs.IntValuesValues.next.Goals as goal

pub returns-in_err-found : goal.returns-in_err-found
returns-in_err-found c =
    let e : ◌≡◌ {A = Option Found} c.int_at.result None = search rules in
    let n = found-none (ints-find c.args.self.now.code.now c.args.self.now.end c.int_at.ensures) e in
    search rules

pub returns : goal.returns
returns c = found_some (ints-find c.args.self.now.code.now c.args.self.now.end c.int_at.ensures) (search rules)
