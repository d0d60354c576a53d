-- `tielines::of_fields` meets its contract: a value line, or a line of two names. Assumes nothing.
use Rattle.std.proofs.Common.{◌≡◌, ap, ◌∙◌, Some, None, Err, arith}
use Rattle.std.proofs.lemmas.Result.{err_from_is_err_and}
use Rattle.codes.specs.declared.Refusal.TheVariants.{Malformed}
use Rattle.tielines.proofs.TieFields.{value-unread, value_read, two-unread, two-read}
use Rattle.tielines.proofs.of_fields.Goals as goal

pub returns-in_err-ok_or : goal.returns-in_err-ok_or
returns-in_err-ok_or c =
    let gone : c.value_fields.result ≡ None = grind arith in
    let p = err_from_is_err_and c.from_residual.result c.from_residual.ensures.1 in
    let why : c.in_err-ok_or.field-0.0 ≡ Malformed = grind arith in
    value-unread c.args.f.now c.if-key-eq-VALUE.true (rw gone at c.value_fields.ensures) (p.1 ∙ ap Err (p.2 ∙ why))

pub returns-in_err-ok_or-2 : goal.returns-in_err-ok_or-2
returns-in_err-ok_or-2 c =
    let gone : c.two_fields.result ≡ None = grind arith in
    let p = err_from_is_err_and c.from_residual-in_err-ok_or-2.result c.from_residual-in_err-ok_or-2.ensures.1 in
    let why : c.in_err-ok_or-2.field-0.0 ≡ Malformed = grind arith in
    two-unread c.args.f.now c.if-key-eq-VALUE.false (rw gone at c.two_fields.ensures) (p.1 ∙ ap Err (p.2 ∙ why))

pub returns-in_ok-ok_or : goal.returns-in_ok-ok_or
returns-in_ok-ok_or c =
    let read : c.value_fields.result ≡ Some c.in_ok-ok_or.field-0 = grind arith in
    value_read c.args.f.now c.if-key-eq-VALUE.true c.in_ok-ok_or.field-0 (rw read at c.value_fields.ensures) c.value.ensures

pub returns-in_ok-ok_or-2 : goal.returns-in_ok-ok_or-2
returns-in_ok-ok_or-2 c =
    let read : c.two_fields.result ≡ Some c.in_ok-ok_or-2.field-0 = grind arith in
    two-read c.args.f.now c.if-key-eq-VALUE.false c.in_ok-ok_or-2.field-0 (rw read at c.two_fields.ensures) c.two.ensures
