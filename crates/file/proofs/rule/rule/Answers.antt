-- `file::rule::rule` meets its contract. Assumes nothing.
use Rattle.std.proofs.Common.{◌≡◌, refl, ap, ◌∙◌, Some, None, Err, arith}
use Rattle.std.proofs.lemmas.Result.{err_from_is_err_and}
use Rattle.codes.specs.declared.Refusal.TheVariants.{Malformed, Undeclared}
use Rattle.codes.specs.Enums.{number_in}
use Rattle.fields.proofs.ToldParts.{unread}
use Rattle.file.proofs.LineReading.{fields-unread}
use Rattle.file.proofs.RuleLines.{rule-misjudged, rule-unknown, rule-full, rule-accepted}
use Rattle.file.proofs.rule.rule.Goals as goal

pub returns-in_err-parts : goal.returns-in_err-parts
returns-in_err-parts c =
    let gone : c.rule_fields.result ≡ None = grind arith in
    let p = err_from_is_err_and c.from_residual.result c.from_residual.ensures.1 in
    let why : c.in_err-parts.field-0.0 ≡ Malformed = grind arith in
    fields-unread _ (unread (rw gone at c.rule_fields.ensures).fields) (p.1 ∙ ap Err (p.2 ∙ why))

pub returns-in_err-judge : goal.returns-in_err-judge
returns-in_err-judge c =
    let read : c.rule_fields.result ≡ Some c.in_ok-parts.parts = grind arith in
    let p = err_from_is_err_and c.from_residual-in_err-judge.result c.from_residual-in_err-judge.ensures.1 in
    rule-misjudged c.args.f.now c.in_ok-parts.parts (rw read at c.rule_fields.ensures) c.args.book.now c.args.code.now c.judge.new.code _ _ refl c.in_err-judge.ensures
    c.in_err-judge.field-0.0 refl (ap number_in (p.1 ∙ ap Err p.2))

pub returns-in_err-operation : goal.returns-in_err-operation
returns-in_err-operation c =
    let read : c.rule_fields.result ≡ Some c.in_ok-parts.parts = grind arith in
    let gone : c.operation_number.result ≡ None = grind arith in
    let p = err_from_is_err_and c.from_residual-in_err-operation.result c.from_residual-in_err-operation.ensures.1 in
    let why : c.in_err-operation.field-0.0 ≡ Undeclared = grind arith in
    rule-unknown c.args.f.now c.in_ok-parts.parts (rw read at c.rule_fields.ensures) c.args.book.now c.args.code.now c.judge.new.code _ _ refl c.in_ok-judge.ensures
    refl (rw gone at c.operation_number.ensures.1) (ap number_in (p.1 ∙ ap Err (p.2 ∙ why)))

pub returns-then-k-ge-RULES : goal.returns-then-k-ge-RULES
returns-then-k-ge-RULES c =
    let read : c.rule_fields.result ≡ Some c.in_ok-parts.parts = grind arith in
    let there : c.operation_number.result ≡ Some c.in_ok-operation.operation = grind arith in
    rule-full c.args.f.now c.in_ok-parts.parts (rw read at c.rule_fields.ensures) c.args.book.now c.args.code.now c.judge.new.code _ _ refl c.in_ok-judge.ensures
    refl (rw there at c.operation_number.ensures.1) (omega (arith, c.if-k-ge-RULES.true))

pub returns : goal.returns
returns c =
    let read : c.rule_fields.result ≡ Some c.in_ok-parts.parts = grind arith in
    let there : c.operation_number.result ≡ Some c.in_ok-operation.operation = grind arith in
    rule-accepted c.args.f.now c.in_ok-parts.parts (rw read at c.rule_fields.ensures) c.args.book.now c.args.code.now c.judge.new.code _ _ refl c.in_ok-judge.ensures
    refl (rw there at c.operation_number.ensures.1) (omega (arith, c.if-k-ge-RULES.false)) (omega (arith, c.judge.auto, c.requires.1)) c.put_rows.new.code
    c.put_rows.ensures c.put.new.book c.put.ensures
