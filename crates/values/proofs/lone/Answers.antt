-- `values::lone` meets its contract. Assumes nothing.
use borrow.Author.Rules.{rules}
use Rattle.values.specs.Operands.{lent, operand_values}
use Rattle.values.specs.Compared.{among_of}
use mathlib.Core.Path.{ap, ◌∙◌}
use Rattle.values.proofs.Compared.{not_bool, some_alone}
use Rattle.values.proofs.lone.Goals as goal

pub returns-then-operand : goal.returns-then-operand
returns-then-operand c =
    not_bool (lent c.args.code.now c.args.pairs.now c.args.session.now c.args.entries.now) c.args.operand (search rules)

pub returns : goal.returns
returns c =
    let lend = lent c.args.code.now c.args.pairs.now c.args.session.now c.args.entries.now in
    some_alone lend c.args.operand c.if-operand.false c.is_among.result (c.is_among.ensures ∙ ap (among_of (operand_values lend c.args.operand)) c.one_word.ensures)
