-- `book::declare::put_pair` meets its contract. Assumes nothing.
use native.Mathlib.Omega.{arith}
use lib.ListN.{length-set}
use Rattle.book.proofs.PairLines.{wrote-pair, wrote-long, pair-same-length}
use Rattle.book.proofs.declare.put_pair.Goals as goal

pub slice_bounds-add-end : goal.slice_bounds-add-end
slice_bounds-add-end c = simp length-set (omega (arith, c.requires.0))

pub bounds-book-2 : goal.bounds-book-2
bounds-book-2 c =
    omega (arith, wrote-long c.args.book.now c.args.n c.args.k c.args.words c.with-mask.result c.requires.0 c.requires.1 c.requires.2 _ c.add.ensures)

pub shape_of-book : goal.shape_of-book
shape_of-book c =
    pair-same-length _ _ _ _ _ c.requires.0 c.requires.1 c.requires.2
    (wrote-pair c.args.book.now c.args.n c.args.k c.args.words c.with-mask.result c.requires.0 c.requires.1 c.requires.2 _ c.add.ensures c.with-mask.ensures)

pub returns : goal.returns
returns c =
    wrote-pair c.args.book.now c.args.n c.args.k c.args.words c.with-mask.result c.requires.0 c.requires.1 c.requires.2 _ c.add.ensures c.with-mask.ensures
