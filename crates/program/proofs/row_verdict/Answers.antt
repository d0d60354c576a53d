-- `program::row_verdict` meets its contract. Assumes nothing.
use mathlib.Core.Path.{sym, ◌∙◌}
use borrow.Author.Tests.{not-true}
use denote.Enum.Bare.{sameb}
use Rattle.truth.specs.contracts.Truth.{the_type}
use Rattle.truth.specs.declared.Truth.TheVariants.{Undef}
use Rattle.program.specs.TermRows.{lent_by}
use Rattle.program.proofs.RowValues.{told-plain, undef_so}
use Rattle.program.proofs.row_verdict.Goals as goal

pub returns-then-ne : goal.returns-then-ne
returns-then-ne c =
    let value = c.row_value-value.result in
    told-plain (lent_by c.args.lent.now) c.args.lent.now.rows.now c.args.row value c.row_value-value.ensures (sameb the_type value Undef) (undef_so value) (not-true _ (sym c.ne.ensures ∙ c.if-ne.true))
    c.plain.result c.plain.ensures
