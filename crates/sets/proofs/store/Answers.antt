-- `sets::store` meets its contract: holder k's four words are lent to `rewrite`. Assumes nothing.
use mathlib.Core.Path.{◌≡◌, refl, sym, ◌∙◌}
use Prim.Native.Nat.{◌≤◌, ◌+◌, ◌*◌}
use lib.ListN.{length}
use borrow.Rule.Slice.PartMut.{mid_len}
use Rattle.bits.proofs.Sets.{member-part}
use Rattle.sets.proofs.LentSets.{holds-put, put-others}
use Rattle.sets.proofs.Telling.{unlike-same, unlike-put}
use native.Mathlib.Omega.{arith}
use Rattle.sets.proofs.store.Goals as goal

pub returns-then-k-table : goal.returns-then-k-table
returns-then-k-table c =
    (record { pairs = λ few p h. absurd (omega arith); others = λ j n. refl }, sym (unlike-same c.args.table.now c.args.table.now c.args.k (λ j e. refl)))

pub returns : goal.returns
returns c =
    let few : 4 * c.args.k + 4 ≤ length c.args.table.now = omega (arith, c.if-k-table.false, c.requires.0) in
    let long : length c.rewrite.new.set ≡ 4 = omega (arith, c.rewrite.auto.set, mid_len (4 * c.args.k) (4 * c.args.k + 4) c.args.table.now (omega arith)) in (
      record {
        pairs = λ low p h. holds-put c.args.table.now c.rewrite.new.set c.args.k few long p h
            ∙ (rw (member-part c.args.arrays.now.own.now c.args.k p h, c.gather-sum.ensures p h) at (c.rewrite.ensures.0 p h));
        others = put-others c.args.table.now c.rewrite.new.set c.args.k few long;
      },
      c.rewrite.ensures.1 ∙ unlike-put c.args.table.now c.rewrite.new.set c.args.k few long,
    )
