-- `policy::conjunction`, `policy::policy`, `policy::term` meet their contracts. Assumes nothing.
use mathlib.Core.Path.{sym, ap, subst, ◌∙◌}
use Rattle.std.specs.Prelude.{Some}
use Rattle.policy.specs.declared.Head.{Head}
use Rattle.policy.specs.Readers.{Conjunctions, Policies, Terms}
use Rattle.policy.proofs.Levels.{conjunctions, policies, level-none, level-stop, level-more}
use Rattle.policy.proofs.Heads.{head-none, head-leaf, open-none, open-closed}
use Rattle.policy.proofs.+conjunction_policy_term.Goals as goal

pub conjunction-returns-in_err-next : goal.conjunction-returns-in_err-next
conjunction-returns-in_err-next t c =
    subst (Conjunctions c.args.code.now c.args.at) (sym c.from_residual.ensures) (level-none c.args.code.now 1 conjunctions c.args.at c.in_err-next.ensures)

pub conjunction-returns-then-kind_at-ne-AND : goal.conjunction-returns-then-kind_at-ne-AND
conjunction-returns-then-kind_at-ne-AND t c =
    level-stop c.args.code.now 1 conjunctions c.args.at c.in_ok-next.next c.kind_at.result c.in_ok-next.ensures c.kind_at.ensures c.if-kind_at-ne-AND.true

pub conjunction-returns : goal.conjunction-returns
conjunction-returns t c =
    level-more c.args.code.now 1 conjunctions c.args.at c.in_ok-next.next c.kind_at.result c.in_ok-next.ensures c.kind_at.ensures
    c.conjunction.result c.if-kind_at-ne-AND.false c.conjunction.ensures

pub policy-returns-in_err-next : goal.policy-returns-in_err-next
policy-returns-in_err-next t c =
    subst (Policies c.args.code.now c.args.at) (sym c.from_residual.ensures) (level-none c.args.code.now 2 policies c.args.at c.in_err-next.ensures)

pub policy-returns-then-kind_at-ne-OR : goal.policy-returns-then-kind_at-ne-OR
policy-returns-then-kind_at-ne-OR t c =
    level-stop c.args.code.now 2 policies c.args.at c.in_ok-next.next c.kind_at.result c.in_ok-next.ensures c.kind_at.ensures c.if-kind_at-ne-OR.true

pub policy-returns : goal.policy-returns
policy-returns t c =
    level-more c.args.code.now 2 policies c.args.at c.in_ok-next.next c.kind_at.result c.in_ok-next.ensures c.kind_at.ensures
    c.policy.result c.if-kind_at-ne-OR.false c.policy.ensures

pub term-returns-in_err-next : goal.term-returns-in_err-next
term-returns-in_err-next t c =
    subst (Terms c.args.code.now c.args.at) (sym c.from_residual.ensures) (head-none c.args.code.now c.args.at c.term_head.result c.term_head.ensures c.in_err-next.was)

pub term-returns-in-Leaf : goal.term-returns-in-Leaf
term-returns-in-Leaf t c =
    head-leaf c.args.code.now c.args.at c.term_head.result c.term_head.ensures c.in-Leaf.next c.in-Leaf.field-1
    (c.in_ok-next.was ∙ ap (λ (h : Head). Some h) c.in-Leaf.is)

pub term-returns-in_err-next-in-Open : goal.term-returns-in_err-next-in-Open
term-returns-in_err-next-in-Open t c =
    subst (Terms c.args.code.now c.args.at) (sym c.from_residual-in_err-next-in-Open.ensures)
    (open-none c.args.code.now c.args.at c.term_head.result c.term_head.ensures c.in-Open.inner (c.in_ok-next.was ∙ ap (λ (h : Head). Some h) c.in-Open.is)
    c.in_err-next-in-Open.ensures)

pub term-returns-in_ok-next-in-Open : goal.term-returns-in_ok-next-in-Open
term-returns-in_ok-next-in-Open t c =
    open-closed c.args.code.now c.args.at c.term_head.result c.term_head.ensures c.in-Open.inner (c.in_ok-next.was ∙ ap (λ (h : Head). Some h) c.in-Open.is)
    c.in_ok-next-in-Open.next c.in_ok-next-in-Open.ensures c.close.result c.close.ensures
