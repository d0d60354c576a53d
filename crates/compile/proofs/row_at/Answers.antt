-- `compile::row_at` meets its contract. Assumes nothing.
use mathlib.Core.Path.{sym, ◌∙◌}
use Rattle.compile.proofs.Leaves.{row-alone, row-with-and}
use Rattle.compile.proofs.row_at.Goals as goal

pub returns-then-kind_at-ne-AND : goal.returns-then-kind_at-ne-AND
returns-then-kind_at-ne-AND c =
    row-alone c.args.code.now c.args.attributes.now c.args.at c.term_at-t.result c.term_at-t.ensures

pub returns : goal.returns
returns c =
    row-with-and c.args.code.now c.args.attributes.now c.args.at c.term_at-t.result c.term_at-t.ensures (sym c.kind_at.ensures ∙ c.if-kind_at-ne-AND.false)
