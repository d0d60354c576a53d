-- `sets::store_marked` meets its contract. Assumes nothing.
use mathlib.Core.Path.{◌≡◌, sym, ◌∙◌}
use mathlib.Core.Bool.{true, false}
use Rattle.sets.specs.Settled.{unlike}
use Rattle.sets.proofs.Telling.{told-changed, told-unchanged, changed-lt}
use native.Mathlib.Omega.{arith}
use Rattle.sets.proofs.store_marked.Goals as goal

pub returns-then-not-store : goal.returns-then-not-store
returns-then-not-store c =
    let off : unlike c.args.table.now c.store.new.table c.args.k ≡ false = sym c.store.ensures.1 ∙ c.if-not-store.true in
    (c.store.ensures.0, told-unchanged c.store.ensures.0 c.args.marks.now off, sym off)

pub insert-requires : goal.insert-requires
insert-requires c =
    let on : unlike c.args.table.now c.store.new.table c.args.k ≡ true = sym c.store.ensures.1 ∙ c.if-not-store.false in
    omega (arith, changed-lt c.store.ensures.0 on c.store.auto.table, c.requires.2)

pub returns : goal.returns
returns c =
    let on : unlike c.args.table.now c.store.new.table c.args.k ≡ true = sym c.store.ensures.1 ∙ c.if-not-store.false in
    (c.store.ensures.0, told-changed c.store.ensures.0 c.args.marks.now _ on c.insert.ensures, sym on)
