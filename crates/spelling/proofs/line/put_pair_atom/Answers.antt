-- `put_pair_atom` meets its contract.
use lib.ListN.{get_or}
use Prim.Native.Nat.{ℕ, ◌+◌}
use Rattle.spelling.specs.LineTexts.{pair_at, atom_text}
use Rattle.output.proofs.Laying.{laid_as}
use mathlib.Core.Path.{ap, ◌∙◌}
use Rattle.spelling.proofs.line.put_pair_atom.Goals as goal

pub returns : goal.returns
returns c =
    (laid_as (ap (λ (k : ℕ). atom_text c.args.book.now k (pair_at c.args.p + 1)) (c.word-ty.ensures ∙ ap (λ (k : ℕ). get_or c.args.book.now (k + 1) 0) c.row_of_pair-row.ensures.0)) c.put_atom.ensures.0, c.put_atom.ensures.1)
