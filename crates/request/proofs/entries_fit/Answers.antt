-- `request::entries_fit` meets its contract. Assumes nothing.
use native.Mathlib.Omega.{arith}
use mathlib.Core.Bool.{true, false}
use Rattle.model.specs.Refusals.{entry_fits}
use Rattle.request.proofs.EntryTests.{all_fit, one-does-not, so_far, told_of}
use Rattle.request.proofs.entries_fit.Goals as goal

pub returns-then-not-entry_fits : goal.returns-then-not-entry_fits
returns-then-not-entry_fits c = λ D ar n e. one-does-not c.args.entries.now (entry_fits D) n e c.loop-i.i (omega arith)
    (told_of c.args.entries.now D c.loop-i.i c.four-value.result c.four-value.ensures c.entry_fits.result (c.entry_fits.ensures D ar) false c.if-not-entry_fits.true)

pub loop-i-preserved : goal.loop-i-preserved
loop-i-preserved c = λ D ar. so_far c.args.entries.now (entry_fits D) c.loop-i.i (c.loop-i.invariant D ar)
    (told_of c.args.entries.now D c.loop-i.i c.four-value.result c.four-value.ensures c.entry_fits.result (c.entry_fits.ensures D ar) true c.if-not-entry_fits.false)

pub returns : goal.returns
returns c = λ D ar n e. all_fit c.args.entries.now (entry_fits D) n e (λ j h. c.loop-i.invariant D ar j (omega arith))
