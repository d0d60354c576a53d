-- `file::line::pair` meets its contract. Assumes nothing.
use Rattle.std.proofs.Common.{◌≡◌, ap, ◌∙◌, Some, None, Err, arith}
use Rattle.std.proofs.lemmas.Result.{err_from_is_err_and}
use Rattle.codes.specs.declared.Refusal.TheVariants.{Malformed}
use Rattle.fields.proofs.ToldParts.{unread}
use Rattle.file.proofs.LineReading.{fields-unread, pair_read}
use Rattle.file.proofs.line.pair.Goals as goal

pub returns-in_err-p : goal.returns-in_err-p
returns-in_err-p c code =
    let gone : c.pair_fields.result ≡ None = grind arith in
    let p = err_from_is_err_and c.from_residual.result c.from_residual.ensures.1 in
    let why : c.in_err-p.field-0.0 ≡ Malformed = grind arith in
    fields-unread _ (unread (rw gone at c.pair_fields.ensures)) (p.1 ∙ ap Err (p.2 ∙ why))

pub returns : goal.returns
returns c =
    let read : c.pair_fields.result ≡ Some c.in_ok-p.p = grind arith in
    pair_read c.args.f.now c.in_ok-p.p (rw read at c.pair_fields.ensures) (rw c.from.ensures at c.pair.ensures.1)
