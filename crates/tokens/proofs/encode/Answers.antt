-- `tokens::encode` meets its contract: the code of the tokens that were passed is written.
use mathlib.Core.Path.{sym, ◌∙◌}
use native.Mathlib.Omega.{arith}
use Rattle.tokens.proofs.Passed.{passed_none, passed-bad, passed-given, passed-further, passed_on, passed-all}
use Rattle.tokens.proofs.encode.Goals as goal

pub loop-at-init : goal.loop-at-init
loop-at-init c = passed_none c.args.s.now c.args.attributes.now c.args.code.now

pub returns-in_default : goal.returns-in_default
returns-in_default c = passed-bad c.loop-at.invariant (sym c.token_at.ensures ∙ c.in_default.is)

pub write-w-requires : goal.write-w-requires
write-w-requires c =
    (c.requires.0, passed-given c.loop-at.invariant c.requires.1 c.in-Some.t (sym c.in-Some.is ∙ c.token_at.ensures))

pub loop-at-smaller : goal.loop-at-smaller
loop-at-smaller c =
    let f = passed-further c.loop-at.invariant c.requires.1 c.in-Some.t (sym c.in-Some.is ∙ c.token_at.ensures) c.loop-at-test.true in
    omega arith

pub loop-at-preserved : goal.loop-at-preserved
loop-at-preserved c = passed_on c.loop-at.invariant c.requires.1 c.in-Some.t (sym c.in-Some.is ∙ c.token_at.ensures) c.write-w.ensures

pub returns : goal.returns
returns c = passed-all c.loop-at.invariant c.requires.1 (omega arith)
