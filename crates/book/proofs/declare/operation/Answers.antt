-- `book::declare::operation` meets its contract. Assumes nothing.
use mathlib.Core.Path.{refl, sym}
use native.Mathlib.Omega.{arith}
use Rattle.book.proofs.Operations.{operation-same-length, operation-repeated, operation-full, operation-step}
use Rattle.book.proofs.DeclarationTests.{left, written, handed-on}
use Rattle.book.proofs.declare.operation.Goals as goal

pub returns-then-is_some : goal.returns-then-is_some
returns-then-is_some c = (left, operation-repeated _ _ _ c.operation_number.ensures.1 (sym c.if-is_some.ensures))

pub returns-in_err-n : goal.returns-in_err-n
returns-in_err-n c =
    rw (handed-on c.from_residual.result _ _ c.from_residual.ensures.1 c.in_err-n.ensures.0)
    (left, operation-full _ _ _ c.operation_number.ensures.1 (sym c.if-is_some.ensures) _ refl c.in_err-n.ensures.1)

pub returns : goal.returns
returns c = (
  written (operation-same-length _ _ _ (omega arith) _ c.put_operation.ensures),
  operation-step _ _ _ c.operation_number.ensures.1 (sym c.if-is_some.ensures) _ c.in_ok-n.ensures.0 c.in_ok-n.ensures.1 _ c.put_operation.ensures,
)
