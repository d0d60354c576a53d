-- `request::Request::decided` meets its contract. Assumes nothing.
use native.Mathlib.Omega.{arith}
use mathlib.Core.Path.{refl, sym, ap, ◌∙◌}
use mathlib.Core.Bool.{Bool, ◌||◌}
use Rattle.truth.specs.Verdicts.{verdict_of}
use Rattle.request.proofs.RuleValues.{true-told, undef-told, none_yet, one_more, permits, undefines-absent, undefines-unlike, denies}
use Rattle.request.proofs.Request.decided.Goals as goal

pub loop-k-init : goal.loop-k-init
loop-k-init c = λ S b attributes of w. none_yet S b

pub returns-then-eq : goal.returns-then-eq
returns-then-eq c = (
  tt,
  λ S b attributes of w.
      permits S b c.loop-k.k c.loop-k.undefined c.loop-k.absent (verdict_of c.rule_verdict-verdict.result) (c.loop-k.invariant S b attributes of w)
      (c.rule_verdict-verdict.ensures S b attributes of (omega arith)) (sym (true-told c.rule_verdict-verdict.result.value) ∙ sym c.eq.ensures ∙ c.if-eq.true),
)

pub loop-k-preserved : goal.loop-k-preserved
loop-k-preserved c = λ S b attributes of w.
    one_more S b c.loop-k.k c.loop-k.undefined c.loop-k.absent (verdict_of c.rule_verdict-verdict.result) _ _ (c.loop-k.invariant S b attributes of w)
    (c.rule_verdict-verdict.ensures S b attributes of (omega arith)) (sym (true-told c.rule_verdict-verdict.result.value) ∙ sym c.eq.ensures ∙ c.if-eq.false)
    (ap (λ (u : Bool). c.loop-k.undefined || u) (c.eq-undefined.ensures ∙ undef-told c.rule_verdict-verdict.result.value)) refl

pub returns-then-absent : goal.returns-then-absent
returns-then-absent c = (
  tt,
  λ S b attributes of w.
      undefines-absent S b c.loop-k.k (omega arith) c.loop-k.undefined c.loop-k.absent (c.loop-k.invariant S b attributes of w) c.if-absent.true,
)

pub returns-then-undefined : goal.returns-then-undefined
returns-then-undefined c = (
  tt,
  λ S b attributes of w.
      undefines-unlike S b c.loop-k.k (omega arith) c.loop-k.undefined c.loop-k.absent (c.loop-k.invariant S b attributes of w) c.if-absent.false c.if-undefined.true,
)

pub returns-else-undefined : goal.returns-else-undefined
returns-else-undefined c = (
  tt,
  λ S b attributes of w.
      denies S b c.loop-k.k (omega arith) c.loop-k.undefined c.loop-k.absent (c.loop-k.invariant S b attributes of w) c.if-undefined.false,
)
