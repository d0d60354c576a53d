-- `zhul_pass` meets its contract. Assumes nothing.
use mathlib.Core.Path.{refl, ◌∙◌}
use Rattle.codes.specs.Enums.{refusal_number}
use Rattle.tielines.proofs.TieRefusals.{refused_for}
use Rattle.host.proofs.Passes.{pass-table, pass-refused, pass-decided}
use Rattle.host.proofs.zhul_pass.Goals as goal

pub returns-in-Ok : goal.returns-in-Ok
returns-in-Ok c = (
  c.number_of.ensures ∙ pass-decided c.args.file.now c.args.block.now c.args.table.now _ _ _ 0 c.in-Ok.field-0 c.in-Ok.ensures refl c.decide.result c.decide.ensures.decides,
  pass-table c.args.file.now c.args.block.now c.args.table.now _ _ _ 0 c.in-Ok.field-0 c.in-Ok.ensures,
)

pub returns-in-Err : goal.returns-in-Err
returns-in-Err c =
    let number = refusal_number c.in-Err.refused.refusal in (
      c.from.ensures
          ∙ pass-refused c.args.file.now c.args.block.now c.args.table.now _ _ _ number c.in-Err.refused.line c.in-Err.ensures (refused_for c.in-Err.refused.refusal),
      pass-table c.args.file.now c.args.block.now c.args.table.now _ _ _ number c.in-Err.refused.line c.in-Err.ensures,
    )
