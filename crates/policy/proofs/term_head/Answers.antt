-- `policy::term_head` meets its contract. Assumes nothing.
use Prim.Native.Nat.{◌+◌}
use lib.Dec.{eqb}
use Rattle.policy.proofs.Heads.{signed-simple, term-signed}
use Rattle.policy.proofs.term_head.Goals as goal

pub returns-in-Some : goal.returns-in-Some
returns-in-Some c =
    term-signed c.args.code.now c.args.at c.kind_at-negated.result c.from.result c.kind_at-negated.ensures c.from.ensures c.var_head.result
    (c.var_head.ensures (c.args.at + c.from.result) c.in-Some.ensures)

pub returns-in-None : goal.returns-in-None
returns-in-None c =
    term-signed c.args.code.now c.args.at c.kind_at-negated.result c.from.result c.kind_at-negated.ensures c.from.ensures c.simple_head.result
    (signed-simple c.args.code.now (c.args.at + c.from.result) (eqb c.kind_at-negated.result 12) c.in-None.ensures
    c.simple_head.result (c.simple_head.ensures c.in-None.ensures))
