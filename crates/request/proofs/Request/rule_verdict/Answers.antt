-- `request::Request::rule_verdict` meets its contract. Assumes nothing.
use mathlib.Core.Path.{sym, ◌∙◌}
use Rattle.request.proofs.RuleValues.{other-operation, its-operation}
use Rattle.request.proofs.Request.rule_verdict.Goals as goal

pub returns-then-self-k : goal.returns-then-self-k
returns-then-self-k c = λ S b attributes of known. c.plain.ensures ∙ other-operation of c.args.k known (λ e. c.if-self-k.true (e ∙ sym c.from.ensures))

pub returns : goal.returns
returns c = λ S b attributes of known. its-operation of c.args.k known (c.if-self-k.false ∙ c.from.ensures) c.run.result c.run.ensures
