-- `host::zhul_decide` meets its contract. Assumes nothing.
use mathlib.Core.Path.{◌∙◌}
use native.Mathlib.Omega.{arith}
use Rattle.host.proofs.zhul_decide.Goals as goal

pub returns : goal.returns
returns c = (
  record {
    decision = c.decide-d.result;
    decides = c.decide-d.ensures.decides;
    number = c.pack.ensures.low_bits ∙ c.number_of.ensures;
    rule = omega (arith, c.pack.ensures.high_bits, c.rule_of.ensures, c.cause_of.ensures);
    cause = omega (arith, c.pack.ensures.high_bits, c.rule_of.ensures, c.cause_of.ensures);
  },
  c.decide-d.ensures.listed,
)
