-- `policy::judge` meets its contract. Assumes nothing.
use mathlib.Core.Path.{◌≡◌, sym, subst}
use borrow.Author.Rules.{rules}
use Rattle.std.specs.Prelude.{Result, Err}
use Rattle.codes.specs.declared.Refusal.{Refusal}
use Rattle.codes.specs.Enums.{number_in}
use Rattle.policy.specs.Judgements.{Judges}
use Rattle.policy.proofs.Wholes.{judge-bad, judge-scanned, judge-unread, judge-more}
use Rattle.policy.proofs.judge.Goals as goal

pub returns-in_default : goal.returns-in_default
returns-in_default c =
    judge-bad c.args.s.now c.args.attributes.now c.args.code.now c.encode.new.code c.encode.result c.encode.ensures c.in_default.field-0 c.in_default.is

pub returns-in_err-refusal : goal.returns-in_err-refusal
returns-in_err-refusal c =
    let e : c.from_residual.result ≡ Err c.in_err-refusal.field-0.0 = search rules in
    subst (λ (r : Result (Unit {0}) Refusal). Judges c.args.s.now c.args.attributes.now c.args.code.now c.encode.new.code (number_in r)) (sym e)
    (judge-scanned c.args.s.now c.args.attributes.now c.args.code.now c.encode.new.code c.encode.result c.encode.ensures c.in-Ok.encoded c.in-Ok.is
    c.scan.result c.scan.ensures _ c.in_err-refusal.ensures)

pub returns-in-Some : goal.returns-in-Some
returns-in-Some c =
    judge-scanned c.args.s.now c.args.attributes.now c.args.code.now c.encode.new.code c.encode.result c.encode.ensures c.in-Ok.encoded c.in-Ok.is
    c.scan.result c.scan.ensures 0 c.in_ok-refusal.ensures

pub returns-in_default-policy : goal.returns-in_default-policy
returns-in_default-policy c =
    judge-more c.args.s.now c.args.attributes.now c.args.code.now c.encode.new.code c.encode.result c.encode.ensures c.in-Ok.encoded c.in-Ok.is
    c.in-Some.next c.kind_at.result c.in-Some.ensures c.kind_at.ensures c.if-kind_at-eq-END.false

pub returns-in_default-policy-2 : goal.returns-in_default-policy-2
returns-in_default-policy-2 c =
    judge-unread c.args.s.now c.args.attributes.now c.args.code.now c.encode.new.code c.encode.result c.encode.ensures c.in-Ok.encoded c.in-Ok.is
    c.in_default-policy.ensures
