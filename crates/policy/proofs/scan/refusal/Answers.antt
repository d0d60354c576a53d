-- `policy::scan::refusal` meets its contract. Assumes nothing.
use Rattle.policy.proofs.Wholes.{refuse-large, refuse-unknown, accept}
use Rattle.policy.proofs.scan.refusal.Goals as goal

pub returns-in-Whole : goal.returns-in-Whole
returns-in-Whole c =
    refuse-large c.args.s c.args.unknown c.in-Whole.x c.in-Whole.is c.is_large.result c.is_large.ensures c.if-is_large.true

pub returns-in-Whole-2 : goal.returns-in-Whole-2
returns-in-Whole-2 c =
    refuse-unknown c.args.s c.args.unknown c.in-Whole.x c.in-Whole.is c.is_large.result c.is_large.ensures c.if-is_large.false c.if-unknown.true

pub returns-in-Whole-3 : goal.returns-in-Whole-3
returns-in-Whole-3 c =
    accept c.args.s c.args.unknown c.in-Whole.x c.in-Whole.is c.is_large.result c.is_large.ensures c.if-is_large.false c.if-unknown.false
