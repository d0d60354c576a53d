-- `file::line::step` meets its contract. Assumes nothing.
use Rattle.model.specs.Keys as keys
use Rattle.file.proofs.FileLines.{at_key, holder-keys, tie-keys}
use Rattle.file.proofs.line.step.Goals as goal

pub returns-in-Attr : goal.returns-in-Attr
returns-in-Attr c = at_key c.args.f.now keys.Key.attr c.in-Attr.is (c.attribute.ensures c.args.code.now)

pub returns-in-Op : goal.returns-in-Op
returns-in-Op c = at_key c.args.f.now keys.Key.op c.in-Op.is (c.operation.ensures c.args.code.now)

pub returns-in-Atom : goal.returns-in-Atom
returns-in-Atom c = at_key c.args.f.now keys.Key.atom c.in-Atom.is (c.pair.ensures c.args.code.now)

pub returns-in-Ugroup : goal.returns-in-Ugroup
returns-in-Ugroup c = holder-keys c.args.f.now c.args.key c.in-Ugroup.is c.holder.ensures

pub returns-in-Parent : goal.returns-in-Parent
returns-in-Parent c = tie-keys c.args.f.now c.args.key c.in-Parent.is c.tie.ensures

pub returns-in-Rule : goal.returns-in-Rule
returns-in-Rule c = at_key c.args.f.now keys.Key.rule c.in-Rule.is c.rule.ensures
