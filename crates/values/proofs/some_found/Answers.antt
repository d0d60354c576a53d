-- `values::some_found` meets its contract. Assumes nothing.
use mathlib.Core.Path.{sym, ap, ◌∙◌}
use mathlib.Core.Bool.{Bool}
use Rattle.values.specs.Operands.{lent_by, operand_values}
use Rattle.values.specs.Compared.{found_of}
use Rattle.values.proofs.Compared.{found-turned}
use Rattle.values.proofs.some_found.Goals as goal

pub returns-then-right-gt-ENTRIES : goal.returns-then-right-gt-ENTRIES
returns-then-right-gt-ENTRIES c =
    let lend = lent_by c.args.lent.now in
    c.some_among.ensures
    ∙ found-turned (operand_values lend c.args.right) (operand_values lend c.args.left)
    ∙ ap (λ (b : Bool). found_of b (operand_values lend c.args.left) (operand_values lend c.args.right)) (sym c.if-wanted.true)
