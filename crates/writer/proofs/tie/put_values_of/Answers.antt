-- `put_values_of` meets its contract.
use Prim.Native.Nat.{ℕ}
use mathlib.Core.Path.{ap}
use mathlib.Core.List.{List}
use native.Mathlib.Omega.{arith}
use Rattle.std.proofs.Common.{rules}
use Rattle.model.specs.Notation.{each, below}
use Rattle.output.proofs.Laying.{laid_as}
use Rattle.writer.specs.Texts.{member_text, value_line_text}
use Rattle.writer.proofs.TieTexts.{lent-own, lent-long}
use Rattle.writer.proofs.tie.put_values_of.Goals as goal

pub put_members-requires-clause-few : goal.put_members-requires-clause-few
put_members-requires-clause-few c = (lent-long c.args.book.now c.args.h c.requires.2 c.requires.1, omega arith)

pub returns : goal.returns
returns c = (
  laid_as (ap (λ (s : List ℕ). each (member_text s (value_line_text c.args.book.now c.args.h)) (below 256)) (lent-own c.args.book.now c.args.h))
      (c.put_members.ensures.laid (value_line_text c.args.book.now c.args.h) (search rules)),
  omega (arith, c.put_members.ensures.within),
)
