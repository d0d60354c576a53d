-- `policy::scan::behind_term` meets its contract. Assumes nothing.
use mathlib.Core.Path.{refl}
use native.Mathlib.Omega.{arith}
use Rattle.policy.proofs.Turns.{joined-turn, closed-turn, closed_none, ended-turn, ended-none, other_none}
use Rattle.policy.proofs.scan.behind_term.Goals as goal

pub returns-in-6 : goal.returns-in-6
returns-in-6 c =
    closed-turn c.args.code.now c.args.x c.requires c.kind_at.result c.kind_at.ensures _ refl c.in-6.is c.if-x-ne0.true

pub returns-in-0 : goal.returns-in-0
returns-in-0 c = ended-turn c.args.code.now c.args.x c.requires c.kind_at.result c.kind_at.ensures c.in-0.is c.if-x-eq0.true

pub returns-in-10 : goal.returns-in-10
returns-in-10 c = joined-turn c.args.code.now c.args.x c.requires c.kind_at.result c.kind_at.ensures _ refl (omega arith) (omega arith)

pub returns-in_default : goal.returns-in_default
returns-in_default c = closed_none c.args.code.now c.args.x c.requires c.kind_at.result c.kind_at.ensures c.in-6.is c.if-x-ne0.false

pub returns-in_default-2 : goal.returns-in_default-2
returns-in_default-2 c = ended-none c.args.code.now c.args.x c.requires c.kind_at.result c.kind_at.ensures c.in-0.is c.if-x-eq0.false

pub returns-in_default-3 : goal.returns-in_default-3
returns-in_default-3 c =
    other_none c.args.code.now c.args.x c.requires c.kind_at.result c.kind_at.ensures
    (λ k. omega arith) (λ k. omega arith) (λ k. omega arith) (λ k. omega arith)

pub returns-in_default-4 : goal.returns-in_default-4
returns-in_default-4 c =
    other_none c.args.code.now c.args.x c.requires c.kind_at.result c.kind_at.ensures
    (λ k. omega arith) (λ k. omega arith) (λ k. omega arith) (λ k. omega arith)
