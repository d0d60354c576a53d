-- `engine::load` meets its contract: one law for each way out. Assumes nothing.
use native.Mathlib.Omega.{arith}
use Rattle.codes.specs.Enums.{refusal_number}
use Rattle.tielines.proofs.TieRefusals.{refused_for}
use Rattle.engine.proofs.LoadCalls.{without-table, refused-file, accepted-file}
use Rattle.engine.proofs.load.Goals as goal

pub returns-then-table-ne-TABLE_WORDS : goal.returns-then-table-ne-TABLE_WORDS
returns-then-table-ne-TABLE_WORDS c =
    without-table c.args.file.now c.args.table.now c.if-table-ne-TABLE_WORDS.true (c.clear.ensures.1 c.args.rules.now (omega arith))

pub returns-in-Ok : goal.returns-in-Ok
returns-in-Ok c =
    accepted-file c.args.file.now c.args.table.now (omega (arith, c.if-table-ne-TABLE_WORDS.false)) c.fill_table.new.table c.in-Ok.ensures (omega arith) c.fill_table.ensures

pub returns-in-Err : goal.returns-in-Err
returns-in-Err c =
    refused-file c.args.file.now c.args.table.now (omega (arith, c.if-table-ne-TABLE_WORDS.false)) (refusal_number c.in-Err.refused.refusal) c.in-Err.refused.line _
    c.in-Err.ensures.number_is c.in-Err.ensures.line-is (refused_for c.in-Err.refused.refusal) (c.clear-in-Err.ensures.1 c.read.new.code (omega arith))
    (c.fill.ensures.after (λ y e. e))
