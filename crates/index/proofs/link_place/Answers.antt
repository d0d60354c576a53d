-- `index::link_place` meets its contract. Assumes nothing.
use native.Mathlib.Omega.{arith}
use Rattle.std.specs.Prelude.{Some, None}
use Rattle.std.proofs.lemmas.Option.{IfSome_then}
use Rattle.index.proofs.Relinking.{passes_on, passes-end}
use Rattle.index.proofs.link_place.Goals as goal

pub returns-then-k-number : goal.returns-then-k-number
returns-then-k-number c =
    passes-end _ _ _ _ (Some c.in-Some.k) (omega arith) c.loop-at.invariant.1 (rw c.in-Some.is at c.loop-at.invariant.2)

pub loop-at-preserved : goal.loop-at-preserved
loop-at-preserved c =
    let (low, within, passes) = rw c.in-Some.is at c.loop-at.invariant in (
      IfSome_then c.link-at-in-Some.result c.link-at-in-Some.ensures.1 (λ j below. omega arith),
      omega (arith, low),
      passes_on _ _ _ c.loop-at.place c.in-Some.k _ (omega arith) passes c.link-at-in-Some.ensures.0,
    )

pub returns : goal.returns
returns c =
    passes-end _ _ _ _ None (omega arith) c.loop-at.invariant.1 (rw c.in_default.is at c.loop-at.invariant.2)
