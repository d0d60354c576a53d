-- `policy::var_head` meets its contract. Assumes nothing.
use Rattle.policy.proofs.Heads.{not-second, compared}
use Rattle.policy.proofs.var_head.Goals as goal

pub returns-in-Some : goal.returns-in-Some
returns-in-Some c =
    compared c.args.code.now c.args.v c.args.negated c.in-Some.w c.in-Some.ensures c.max.result c.max.ensures

pub returns-in-None : goal.returns-in-None
returns-in-None c =
    not-second c.args.code.now c.args.v c.args.negated c.in-None.ensures c.alone.result c.alone.ensures
