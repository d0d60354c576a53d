-- `tielines::two` meets its contract. Assumes nothing.
use Rattle.std.proofs.Common.{ap, ◌∙◌, Err}
use Rattle.std.proofs.lemmas.Result.{err_from_is_err_and}
use Rattle.tielines.proofs.TieSorts.{same-option, other-option}
use Rattle.tielines.proofs.TieNaming.{two-lower, two-upper, two-wrong, two-right, is-parent, is-member}
use Rattle.tielines.proofs.two.Goals as goal

pub returns-in_err-lower : goal.returns-in_err-lower
returns-in_err-lower c =
    let p = err_from_is_err_and c.from_residual.result c.from_residual.ensures.1 in
    two-lower _ _ _ _ c.in_err-lower.ensures.number (p.1 ∙ ap Err p.2)

pub returns-in_err-group : goal.returns-in_err-group
returns-in_err-group c =
    let p = err_from_is_err_and c.from_residual-in_err-group.result c.from_residual-in_err-group.ensures.1 in
    two-upper _ _ _ _ c.in_ok-lower.ensures.number c.in_err-group.ensures.number (p.1 ∙ ap Err p.2)

pub returns-then-ne : goal.returns-then-ne
returns-then-ne c = two-wrong _ _ _ _ c.in_ok-lower.ensures.number c.in_ok-group.ensures.number c.above.ensures (other-option _ _ c.if-ne.ensures)

pub returns-then-key-eq-PARENT : goal.returns-then-key-eq-PARENT
returns-then-key-eq-PARENT c =
    two-right _ _ _ _ c.in_ok-lower.ensures.number c.in_ok-group.ensures.number c.above.ensures _ (λ above tie kind. is-parent kind c.if-key-eq-PARENT.true _ _) (same-option _ _ c.if-ne.ensures)

pub returns-else-key-eq-PARENT : goal.returns-else-key-eq-PARENT
returns-else-key-eq-PARENT c =
    two-right _ _ _ _ c.in_ok-lower.ensures.number c.in_ok-group.ensures.number c.above.ensures _ (λ above tie kind. is-member kind c.if-key-eq-PARENT.false _ _) (same-option _ _ c.if-ne.ensures)
