-- `sets::rewrite` meets its contract. Assumes nothing.
use mathlib.Core.Path.{sym, ap, ◌∙◌}
use mathlib.Core.List.{List}
use Prim.Native.Nat.{ℕ}
use Rattle.bits.specs.Bits.{member, differ}
use Rattle.sets.proofs.Telling.{or_swap}
use Rattle.sets.proofs.rewrite.Goals as goal

pub returns : goal.returns
returns c = (
  λ p h. ap (λ (s : List ℕ). member s p) c.copy_from_slice.ensures.after ∙ c.joined-next.ensures p h ∙ or_swap (member c.args.inherited p) (member c.args.own.now p),
  c.differs-is_changed.ensures ∙ ap (differ 256 c.args.set.now) (sym c.copy_from_slice.ensures.after),
)
