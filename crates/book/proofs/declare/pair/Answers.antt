-- `book::declare::pair` meets its contract. Assumes nothing.
use mathlib.Core.Path.{refl, sym, ◌∙◌}
use native.Mathlib.Omega.{arith}
use Rattle.book.proofs.PairLines.{pair-same-length}
use Rattle.book.proofs.PairSteps.{pair-undeclared, pair-of-block, pair-of-type, pair-repeated, pair-full, pair_step}
use Rattle.book.proofs.DeclarationTests.{left, written, handed-on}
use Rattle.book.proofs.declare.pair.Goals as goal
use Rattle.book.proofs.declare.pair.Goals.{then-is_of_block-via-then-is_of_block, then-is_of_block-via-else-is_of_block+then-attributes-k}

pub returns-in_default : goal.returns-in_default
returns-in_default c = (left, pair-undeclared _ _ _ _ (rw c.in_default.is at c.attribute_number.ensures))

pub returns-then-is_of_block : goal.returns-then-is_of_block
returns-then-is_of_block c = (
  left,
  elim c.then-is_of_block.branch [
    | then-is_of_block-via-then-is_of_block w ↦ pair-of-block _ _ _ _ _ c.in-Some.ensures (sym w.if-is_of_block.ensures)
    | then-is_of_block-via-else-is_of_block+then-attributes-k w ↦ pair-of-type _ _ _ _ _ c.in-Some.ensures (sym w.if-is_of_block.ensures)
        (λ z. w.if-attributes-k.true (z ∙ sym w.from.ensures))
  ],
)

pub returns-then-is_some : goal.returns-then-is_some
returns-then-is_some c = (
  left,
  pair-repeated _ _ _ _ _ c.in-Some.ensures (sym c.if-is_of_block.ensures) (c.if-attributes-k.false ∙ c.from.ensures) _ c.pair_number.ensures.1
      (sym c.if-is_some.ensures),
)

pub returns-in_err-n : goal.returns-in_err-n
returns-in_err-n c =
    rw (handed-on c.from_residual.result _ _ c.from_residual.ensures.1 c.in_err-n.ensures.0) (
      left,
      pair-full _ _ _ _ _ c.in-Some.ensures (sym c.if-is_of_block.ensures) (c.if-attributes-k.false ∙ c.from.ensures) _ c.pair_number.ensures.1
          (sym c.if-is_some.ensures) _ refl c.in_err-n.ensures.1,
    )

pub returns : goal.returns
returns c = (
  written (pair-same-length _ _ _ _ _ c.requires (omega arith) (omega (arith, c.in-Some.ensures.within)) c.put_pair.ensures),
  pair_step _ _ _ _ _ c.in-Some.ensures (sym c.if-is_of_block.ensures) (c.if-attributes-k.false ∙ c.from.ensures) _ c.pair_number.ensures.1
      (sym c.if-is_some.ensures) _ c.in_ok-n.ensures.0 c.in_ok-n.ensures.1 _ c.put_pair.ensures,
)
