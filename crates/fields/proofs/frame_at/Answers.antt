-- `fields::frame_at` meets its contract.
use Rattle.std.proofs.Common.{subst, sym, rules, arith}
use Rattle.fields.specs.Frames.{FrameTold}
use Rattle.fields.proofs.Frames.{no_end, more_behind, too_long, keyed_told}
use Rattle.fields.proofs.frame_at.Goals as goal
use Rattle.fields.proofs.frame_at.Goals.{then-end-line-via-then-end-line, then-end-line-via-else-end-line+then-end-gt-LINE_BYTES}

pub returns-in_err-end : goal.returns-in_err-end
returns-in_err-end c = subst (FrameTold c.args.line.now) (sym c.from_residual.ensures) (no_end _ (c.requires.absent c.in_err-end.was))

pub overflow_add-end : goal.overflow_add-end
overflow_add-end c = omega (arith, c.requires.found _ c.in_ok-end.was)

pub returns-then-end-line : goal.returns-then-end-line
returns-then-end-line c =
    let first = c.requires.found _ c.in_ok-end.was in
    elim c.then-end-line.branch [
      | then-end-line-via-then-end-line w ↦ more_behind _ first w.if-end-line.true
      | then-end-line-via-else-end-line+then-end-gt-LINE_BYTES w ↦ too_long _ first w.if-end-line.false w.if-end-gt-LINE_BYTES.true
    ]

pub returns-in_err-key : goal.returns-in_err-key
returns-in_err-key c = keyed_told _ (c.requires.found _ c.in_ok-end.was) (omega arith) (omega arith) (search rules)

pub returns-in_err-key_of : goal.returns-in_err-key_of
returns-in_err-key_of c = keyed_told _ (c.requires.found _ c.in_ok-end.was) (omega arith) (omega arith) (search rules)

pub returns : goal.returns
returns c = keyed_told _ (c.requires.found _ c.in_ok-end.was) (omega arith) (omega arith) (search rules)
