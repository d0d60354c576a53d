-- `file::line::holder` meets its contract. Assumes nothing.
use Rattle.std.proofs.Common.{◌≡◌, ap, ◌∙◌, Some, None, Err, arith}
use Rattle.std.proofs.lemmas.Result.{err_from_is_err_and}
use Rattle.codes.specs.declared.Refusal.TheVariants.{Malformed}
use Rattle.file.proofs.LineReading.{holder-unread, holder-read}
use Rattle.file.proofs.line.holder.Goals as goal

pub returns-in_err-name : goal.returns-in_err-name
returns-in_err-name c =
    let gone : c.name_field.result ≡ None = grind arith in
    let p = err_from_is_err_and c.from_residual.result c.from_residual.ensures.1 in
    let why : c.in_err-name.field-0.0 ≡ Malformed = grind arith in
    holder-unread c.args.f.now c.args.key (rw gone at c.name_field.ensures) (p.1 ∙ ap Err (p.2 ∙ why))

pub returns : goal.returns
returns c =
    let read : c.name_field.result ≡ Some c.in_ok-name.name = grind arith in
    holder-read c.args.f.now c.args.key (rw read at c.name_field.ensures) (rw c.from.ensures at c.holder.ensures.1)
