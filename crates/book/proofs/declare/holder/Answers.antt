-- `book::declare::holder` meets its contract. Assumes nothing.
use mathlib.Core.Path.{refl, sym, ◌∙◌}
use native.Mathlib.Omega.{arith}
use Rattle.book.proofs.Holders.{holder-same-length, group-same-length}
use Rattle.book.proofs.HolderSteps.{holder-repeated, holder-full, holder-step, group-full, group-step}
use Rattle.book.proofs.DeclarationTests.{left, written, handed-on}
use Rattle.book.proofs.declare.holder.Goals as goal

pub returns-then-is_some : goal.returns-then-is_some
returns-then-is_some c = (left, holder-repeated _ _ _ _ c.holder_number.ensures.1 (sym c.if-is_some.ensures))

pub returns-in_err-n : goal.returns-in_err-n
returns-in_err-n c =
    rw (handed-on c.from_residual.result _ _ c.from_residual.ensures.1 c.in_err-n.ensures.0)
    (left, holder-full _ _ _ _ c.holder_number.ensures.1 (sym c.if-is_some.ensures) _ refl c.in_err-n.ensures.1)

pub returns-then-not-is_group : goal.returns-then-not-is_group
returns-then-not-is_group c =
    let put = rw c.from.ensures at c.put_holder.ensures in (
      written (holder-same-length _ _ _ _ c.requires (omega arith) _ put),
      holder-step _ _ _ _ c.holder_number.ensures.1 (sym c.if-is_some.ensures) _ c.in_ok-n.ensures.0 c.in_ok-n.ensures.1
          (sym c.if-not-is_group.ensures) _ put,
    )

pub returns-in_err-g : goal.returns-in_err-g
returns-in_err-g c =
    rw (handed-on c.from_residual-in_err-g.result _ _ c.from_residual-in_err-g.ensures.1 c.in_err-g.ensures.0) (
      left,
      group-full _ _ _ _ c.holder_number.ensures.1 (sym c.if-is_some.ensures) _ c.in_ok-n.ensures.0 c.in_ok-n.ensures.1
          (sym c.if-not-is_group.ensures) _ refl c.in_err-g.ensures.1,
    )

pub returns : goal.returns
returns c =
    let put = rw c.from-2.ensures at c.put_holder-2.ensures in
    let long = holder-same-length _ _ _ _ c.requires (omega arith) _ put in (
      written (group-same-length _ _ _ (long ∙ c.requires) (omega arith) (omega arith) _ c.put_group.ensures ∙ long),
      group-step _ _ _ _ c.holder_number.ensures.1 (sym c.if-is_some.ensures) _ c.in_ok-n.ensures.0 c.in_ok-n.ensures.1
          (sym c.if-not-is_group.ensures) _ c.in_ok-g.ensures.0 c.in_ok-g.ensures.1 _ _ put c.put_group.ensures,
    )
