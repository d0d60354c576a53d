-- `file::line::tie` meets its contract. Assumes nothing.
use Rattle.std.proofs.Common.{◌≡◌, refl, sym, ap, subst, ◌∙◌, Err}
use Rattle.std.proofs.lemmas.Result.{err_from_is_err_and}
use Rattle.model.specs.Lines.{read_fields}
use Rattle.codes.specs.Enums.{key_number, refusal_number, number_in}
use Rattle.codes.proofs.Enums.{key-numbered}
use Rattle.tielines.proofs.TieRefusals.{refused_for}
use Rattle.file.specs.LineSteps.{KeyRead}
use Rattle.file.proofs.LineReading.{tie-unread, tie-refused, tie-added}
use Rattle.file.proofs.line.tie.Goals as goal

pub returns-in_err-t : goal.returns-in_err-t
returns-in_err-t c k i e =
    let p = err_from_is_err_and c.from_residual.result c.from_residual.ensures.1 in
    tie-unread k c.args.f.now i (c.in_err-t.ensures k i (c.from.ensures ∙ ap key_number e ∙ key-numbered k)) refl (ap number_in (p.1 ∙ ap Err p.2))

pub returns-in_err-judge : goal.returns-in_err-judge
returns-in_err-judge c k i e =
    let p = err_from_is_err_and c.from_residual-in_err-judge.result c.from_residual-in_err-judge.ensures.1 in
    let n : number_in c.from_residual-in_err-judge.result ≡ refusal_number c.in_err-judge.field-0.0 = ap number_in (p.1 ∙ ap Err p.2) in
    subst (KeyRead c.args.book.now (read_fields k c.args.f.now) c.args.book.now) (sym n)
    (tie-refused k c.args.f.now i (c.in_ok-t.ensures k i (c.from.ensures ∙ ap key_number e ∙ key-numbered k)) refl c.in_err-judge.ensures (refused_for c.in_err-judge.field-0.0))

pub returns : goal.returns
returns c k i e = tie-added k c.args.f.now i (c.in_ok-t.ensures k i (c.from.ensures ∙ ap key_number e ∙ key-numbered k)) refl c.in_ok-judge.ensures refl c.change.ensures
