-- `file::line::attribute` meets its contract. Assumes nothing.
use Rattle.std.proofs.Common.{◌≡◌, ap, ◌∙◌, Some, None, Err, arith}
use Rattle.std.proofs.lemmas.Result.{err_from_is_err_and}
use Rattle.codes.specs.declared.Refusal.TheVariants.{Malformed}
use Rattle.fields.proofs.ToldParts.{unread}
use Rattle.file.proofs.LineReading.{fields-unread, attr-read}
use Rattle.file.proofs.line.attribute.Goals as goal

pub returns-in_err-a : goal.returns-in_err-a
returns-in_err-a c code =
    let gone : c.attr_fields.result ≡ None = grind arith in
    let p = err_from_is_err_and c.from_residual.result c.from_residual.ensures.1 in
    let why : c.in_err-a.field-0.0 ≡ Malformed = grind arith in
    fields-unread _ (unread (rw gone at c.attr_fields.ensures)) (p.1 ∙ ap Err (p.2 ∙ why))

pub returns : goal.returns
returns c =
    let read : c.attr_fields.result ≡ Some c.in_ok-a.a = grind arith in
    attr-read c.args.f.now c.in_ok-a.a (rw read at c.attr_fields.ensures) (rw (c.from.ensures, c.from-2.ensures) at c.attribute.ensures.1)
