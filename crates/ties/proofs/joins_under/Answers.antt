-- `ties::joins_under` meets its contract. Assumes nothing.
use mathlib.Core.Path.{sym, ap, ◌∙◌}
use native.Mathlib.Omega.{arith}
use Rattle.ties.specs.TieJoins.{joins_by}
use Rattle.ties.proofs.Joining.{joins-at, none-at}
use Rattle.ties.proofs.joins_under.Goals as goal

pub returns-then-is_under : goal.returns-then-is_under
returns-then-is_under c = (
  c.joins.ensures.0 ∙ ap joins_by c.ties_up.ensures
      ∙ sym (joins-at c.args.ups.now c.args.m c.args.e c.args.k (sym c.is_under.ensures ∙ c.if-is_under.true)),
  c.joins.ensures.1,
)

pub returns-else-is_under : goal.returns-else-is_under
returns-else-is_under c =
    (sym (none-at c.args.ups.now c.args.m c.args.e c.args.k (sym c.is_under.ensures ∙ c.if-is_under.false)), omega arith)
