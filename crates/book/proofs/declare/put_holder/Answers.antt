-- `book::declare::put_holder` meets its contract. Assumes nothing.
use Prim.Native.Nat.{◌+◌}
use native.Mathlib.Omega.{arith}
use Rattle.book.specs.Sections as section
use Rattle.book.proofs.Holders.{wrote-holder, wrote-long}
use Rattle.book.proofs.declare.put_holder.Goals as goal

pub bounds-book-3 : goal.bounds-book-3
bounds-book-3 c =
    omega (arith, wrote-long c.args.book.now c.args.n c.args.sort c.args.name c.requires.0 c.requires.1 _ c.add.ensures ((section.sorts).start + c.args.n) c.args.sort)

pub returns : goal.returns
returns c =
    wrote-holder c.args.book.now c.args.n c.args.sort c.args.name c.requires.0 c.requires.1 _ c.add.ensures
