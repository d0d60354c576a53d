-- `run` meets its contract: what is laid over the buffer is the model's output.
use mathlib.Core.Path.{sym, subst}
use native.Mathlib.Omega.{arith}
use Rattle.model.specs.Ledger.{Answer}
use Rattle.model.specs.Gate.{printed}
use Rattle.printing.specs.Printing.{PrintedAt}
use Rattle.office.specs.Answers.{memory}
use Rattle.office.proofs.Whole.{too_long_lem, whole}
use Rattle.office.proofs.run.Goals as goal

pub returns-then-input-gt-INPUT_BYTES : goal.returns-then-input-gt-INPUT_BYTES
returns-then-input-gt-INPUT_BYTES c = too_long_lem c.args.input.now c.if-input-gt-INPUT_BYTES.true c.put_load.ensures

pub returns : goal.returns
returns c =
    let load = c.put_load-at in
    whole c.args.input.now c.split-parts.result (omega (arith, c.if-input-gt-INPUT_BYTES.false)) c.split-parts.ensures _ (omega arith)
    (memory c.load-loaded.new.book c.load-loaded.new.rules c.load-loaded.new.table) c.load-loaded.ensures
    (subst (λ (a : Answer). PrintedAt c.args.out.now 0 (printed a) load.new.out load.result) (sym c.into.ensures) load.ensures) c.answer_all.ensures.answered
