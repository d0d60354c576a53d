-- `program::opened` meets its contract. Assumes nothing.
use mathlib.Core.Path.{ap, ◌∙◌}
use Rattle.truth.specs.Verdicts.{verdict_number}
use Rattle.program.proofs.Levels.{opened-is}
use Rattle.program.proofs.opened.Goals as goal

pub returns : goal.returns
returns c = λ w is few.
    opened-is c.args.w w is c.number_of.result c.number_of-2.result c.flag_number.result
    (c.number_of.ensures.0 ∙ ap verdict_number c.either_of-either.ensures) (c.number_of-2.ensures.0 ∙ ap verdict_number c.both_of-both.ensures) c.flag_number.ensures.0
    few c.fresh.result c.fresh.ensures
