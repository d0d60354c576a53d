-- `book::declare::put_group` meets its contract. Assumes nothing.
use Prim.Native.Nat.{◌+◌}
use native.Mathlib.Omega.{arith}
use Rattle.book.specs.Sections as section
use Rattle.book.proofs.Holders.{wrote-group, wrote-slots-long}
use Rattle.book.proofs.declare.put_group.Goals as goal

pub bounds-book-4 : goal.bounds-book-4
bounds-book-4 c =
    omega (arith, wrote-slots-long c.args.book.now c.args.n c.args.g c.requires.0 c.requires.1 c.requires.2 _ c.give_slot.ensures.words ((section.slot_of).start + c.args.n) (c.args.g + 1))

pub returns : goal.returns
returns c =
    wrote-group c.args.book.now c.args.n c.args.g c.requires.0 c.requires.1 c.requires.2 _ c.give_slot.ensures.words
