-- `file::line::read` meets its contract. Assumes nothing.
use Rattle.std.proofs.Common.{◌≡◌, refl, ap, ◌∙◌, Some, None, Err, arith}
use Rattle.std.proofs.lemmas.Result.{err_from_is_err_and}
use Rattle.codes.specs.declared.Refusal.TheVariants.{Unframed}
use Rattle.file.proofs.FileLines.{line-unframed, line-early, line-fields, line-refused, line-stepped}
use Rattle.file.proofs.line.read.Goals as goal

pub returns-in_err-framed : goal.returns-in_err-framed
returns-in_err-framed c =
    let gone : c.frame_at.result ≡ None = grind arith in
    let p = err_from_is_err_and c.from_residual.result c.from_residual.ensures.1 in
    let why : c.in_err-framed.field-0.0 ≡ Unframed = grind arith in
    line-unframed _ _ (rw gone at c.frame_at.ensures) (p.1 ∙ ap Err (p.2 ∙ why))

pub returns-then-from-previous : goal.returns-then-from-previous
returns-then-from-previous c =
    let read : c.frame_at.result ≡ Some c.in_ok-framed.framed = grind arith in
    line-early _ _ c.in_ok-framed.framed (rw read at c.frame_at.ensures) (omega (arith, c.from.ensures, c.if-from-previous.true))

pub step-requires : goal.step-requires
step-requires c =
    let read : c.frame_at.result ≡ Some c.in_ok-framed.framed = grind arith in
    (c.requires.0, c.requires.1, line-fields c.args.line.now c.in_ok-framed.framed (rw read at c.frame_at.ensures))

pub returns-in_err-step : goal.returns-in_err-step
returns-in_err-step c =
    let read : c.frame_at.result ≡ Some c.in_ok-framed.framed = grind arith in
    let p = err_from_is_err_and c.from_residual-in_err-step.result c.from_residual-in_err-step.ensures.1 in
    line-refused _ _ c.in_ok-framed.framed (rw read at c.frame_at.ensures) (omega (arith, c.from.ensures, c.if-from-previous.false)) c.in_err-step.ensures (p.1 ∙ ap Err p.2) refl

pub returns : goal.returns
returns c =
    let read : c.frame_at.result ≡ Some c.in_ok-framed.framed = grind arith in
    line-stepped _ _ c.in_ok-framed.framed (rw read at c.frame_at.ensures) (omega (arith, c.from.ensures, c.if-from-previous.false)) c.in_ok-step.ensures refl
