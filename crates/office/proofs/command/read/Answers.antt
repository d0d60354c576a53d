-- `office::command::read` meets its contract.
use mathlib.Core.Path.{sym, ap, ◌∙◌}
use native.Mathlib.Omega.{arith}
use lib.ListN.{length}
use Rattle.office.proofs.InputLines.{bare-within}
use Rattle.office.proofs.Commands.{signed-call, not-try, request-read, request-bad}
use Rattle.office.proofs.command.read.Goals as goal

pub returns-then-is_some : goal.returns-then-is_some
returns-then-is_some c = signed-call _ _ c.sign_of.ensures (sym c.is_some.ensures ∙ c.if-is_some.true)

pub returns-in_err-hex : goal.returns-in_err-hex
returns-in_err-hex c = rw c.from_residual.ensures (not-try _ _ c.sign_of.ensures (sym c.is_some.ensures ∙ c.if-is_some.false) _ c.bare.ensures c.in_err-hex.ensures.cases)

pub unhex-requires : goal.unhex-requires
unhex-requires c = omega (arith, c.in_ok-hex.ensures.cases.2, ap length c.bare.ensures, bare-within c.args.line.now)

pub returns-in_err-length : goal.returns-in_err-length
returns-in_err-length c =
    rw c.from_residual-in_err-length.ensures
    (request-bad _ _ c.sign_of.ensures (sym c.is_some.ensures ∙ c.if-is_some.false) _ c.bare.ensures _ c.in_ok-hex.ensures.cases.0 c.in_ok-hex.ensures.cases.1 c.unhex.ensures
    (sym c.ok.ensures.value ∙ c.in_err-length.was))

pub returns : goal.returns
returns c =
    request-read _ _ c.sign_of.ensures (sym c.is_some.ensures ∙ c.if-is_some.false) _ c.bare.ensures _ c.in_ok-hex.ensures.cases.0 c.in_ok-hex.ensures.cases.1 c.unhex.ensures
    (sym c.ok.ensures.value ∙ c.in_ok-length.was)
