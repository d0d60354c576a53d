-- `tielines::value` meets its contract. Assumes nothing.
use Rattle.std.proofs.Common.{◌≡◌, ap, ◌∙◌, Some, None, Err, arith}
use Rattle.std.proofs.lemmas.Result.{err_from_is_err_and}
use Rattle.codes.specs.declared.Refusal.TheVariants.{Undeclared}
use Rattle.tielines.proofs.TieNaming.{value-holder, value-pair, value-there}
use Rattle.tielines.proofs.value.Goals as goal

pub returns-in_err-holder : goal.returns-in_err-holder
returns-in_err-holder c =
    let p = err_from_is_err_and c.from_residual.result c.from_residual.ensures.1 in
    value-holder _ _ _ _ c.in_err-holder.ensures.number (p.1 ∙ ap Err p.2)

pub returns-in_err-pair : goal.returns-in_err-pair
returns-in_err-pair c =
    let gone : c.pair_of.result ≡ None = grind arith in
    let p = err_from_is_err_and c.from_residual-in_err-pair.result c.from_residual-in_err-pair.ensures.1 in
    let why : c.in_err-pair.field-0.0 ≡ Undeclared = grind arith in
    value-pair _ _ _ _ c.in_ok-holder.ensures.number c.source_for-source.ensures (rw gone at c.pair_of.ensures) (p.1 ∙ ap Err (p.2 ∙ why))

pub returns : goal.returns
returns c =
    let there : c.pair_of.result ≡ Some c.in_ok-pair.pair = grind arith in
    value-there _ _ _ _ c.in_ok-holder.ensures.number c.source_for-source.ensures (rw there at c.pair_of.ensures)
