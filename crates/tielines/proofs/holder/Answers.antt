-- `tielines::holder` meets its contract. Assumes nothing.
use Rattle.model.specs.Declarations.{holder_number}
use Rattle.tielines.proofs.TieNaming.{number-or}
use Rattle.tielines.proofs.holder.Goals as goal

pub returns-clause-number : goal.returns-clause-number
returns-clause-number c S code standing held n named packed =
    number-or (holder_number S.declared n)
    (rw (c.holder_number.ensures.1 S.declared standing.declarations held.holders n named packed) at c.ok_or.ensures.value)
