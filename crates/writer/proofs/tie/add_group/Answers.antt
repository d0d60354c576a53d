-- `add_group` meets its contract.
use Rattle.writer.proofs.TieTexts.{with-group, without-group}
use mathlib.Core.Path.{◌∙◌}
use Rattle.writer.proofs.tie.add_group.Goals as goal

pub returns-then-number-lt-NUMBERS : goal.returns-then-number-lt-NUMBERS
returns-then-number-lt-NUMBERS c = with-group (c.insert.auto.set ∙ c.requires) c.insert.ensures

pub returns-else-number-lt-NUMBERS : goal.returns-else-number-lt-NUMBERS
returns-else-number-lt-NUMBERS c = without-group c.args.groups.now c.args.number c.requires c.if-number-lt-NUMBERS.false
