-- `edit::tie_of_line` meets its contract: 4, 13, or the tie of the fields, which are lent. Assumes nothing.
use mathlib.Core.Path.{subst}
use Rattle.fields.specs.Frames.{FrameTold}
use Rattle.edit.proofs.Exits.{handed-on, none-there}
use Rattle.edit.proofs.EditLines.{no-frame, tie-key, other-key, key-of-others, key-of-ties}
use Rattle.edit.proofs.tie_of_line.Goals as goal

pub returns-in_err-frame : goal.returns-in_err-frame
returns-in_err-frame c =
    let (absent, unframed) = none-there c.frame.result c.in_err-frame.ensures.value in
    rw (handed-on c.from_residual.result c.from_residual.ensures.1, unframed) (no-frame c.args.line.now (subst (FrameTold c.args.line.now) absent c.frame.ensures))

pub returns-in-Parent : goal.returns-in-Parent
returns-in-Parent c =
    key-of-ties c.args.line.now c.in_ok-frame.frame (subst (FrameTold c.args.line.now) c.in_ok-frame.ensures.ok_part c.frame.ensures)
    (λ k e. tie-key k e c.in-Parent.is) (rw c.from.ensures at c.of_fields.ensures)

pub returns-in_default : goal.returns-in_default
returns-in_default c =
    key-of-others c.args.line.now c.in_ok-frame.frame (subst (FrameTold c.args.line.now) c.in_ok-frame.ensures.ok_part c.frame.ensures)
    (λ k e. other-key k e c.in_default.not-Parent c.in_default.not-Member c.in_default.not-Value)
