-- `index::find` meets its contract: the link leads to a row of the chain, and no row from there up has the words. Assumes nothing.
use native.Mathlib.Omega.{arith}
use Rattle.std.proofs.lemmas.Option.{IfSome_then}
use Rattle.index.proofs.ChainWalks.{walks-start, walks-on, walks-found, walks-end}
use Rattle.index.proofs.find.Goals as goal

pub loop-at-init : goal.loop-at-init
loop-at-init c =
    (c.link-at.ensures.1, walks-start _ _ c.rows_in-n.result c.rows_in-n.ensures _ _ c.hash.ensures.0 c.link-at.ensures.0)

pub returns-then-is_at : goal.returns-then-is_at
returns-then-is_at c =
    let (low, walks) = rw c.in-Some.is at c.loop-at.invariant in
    record {
      within = rw c.rows_in-n.ensures at low;
      exact = walks-found _ _ c.rows_in-n.result c.rows_in-n.ensures c.in-Some.k walks _ c.is_at.ensures c.if-is_at.true;
    }

pub loop-at-preserved : goal.loop-at-preserved
loop-at-preserved c =
    let (low, walks) = rw c.in-Some.is at c.loop-at.invariant in (
      IfSome_then c.link-at-in-Some.result c.link-at-in-Some.ensures.1 (λ j below. omega arith),
      walks-on _ _ c.rows_in-n.result c.rows_in-n.ensures c.in-Some.k walks _ c.is_at.ensures _ c.if-is_at.false c.link-at-in-Some.ensures.0,
    )

pub returns : goal.returns
returns c =
    record { within = tt; exact = walks-end _ _ (rw c.in_default.is at c.loop-at.invariant.1) }
