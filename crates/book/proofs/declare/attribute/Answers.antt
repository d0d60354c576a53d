-- `book::declare::attribute` meets its contract. Assumes nothing.
use mathlib.Core.Path.{refl, sym}
use native.Mathlib.Omega.{arith}
use Rattle.book.proofs.AttributeLines.{attribute-same-length, attribute-sorted, attribute-repeated, attribute-full, attribute-step}
use Rattle.book.proofs.DeclarationTests.{left, written, handed-on}
use Rattle.book.proofs.declare.attribute.Goals as goal

pub returns-then-is_block_text : goal.returns-then-is_block_text
returns-then-is_block_text c = (left, attribute-sorted _ _ _ _ (sym c.if-is_block_text.ensures))

pub returns-then-is_some : goal.returns-then-is_some
returns-then-is_some c = (
  left,
  attribute-repeated _ _ _ _ (sym c.if-is_block_text.ensures) _ c.attribute_number.ensures (sym c.if-is_some.ensures),
)

pub returns-in_err-n : goal.returns-in_err-n
returns-in_err-n c =
    rw (handed-on c.from_residual.result _ _ c.from_residual.ensures.1 c.in_err-n.ensures.0) (
      left,
      attribute-full _ _ _ _ (sym c.if-is_block_text.ensures) _ c.attribute_number.ensures (sym c.if-is_some.ensures) _
          refl c.in_err-n.ensures.1,
    )

pub returns : goal.returns
returns c = (
  written (attribute-same-length _ _ _ _ _ (omega arith) _ c.put_attribute.ensures),
  attribute-step _ _ _ _ (sym c.if-is_block_text.ensures) _ c.attribute_number.ensures (sym c.if-is_some.ensures) _
      c.in_ok-n.ensures.0 c.in_ok-n.ensures.1 _ c.put_attribute.ensures,
)
