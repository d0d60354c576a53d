-- `bits::first_from` meets its contract: the rest of the word of i, and then the words behind it. Assumes nothing.
use Rattle.bits.proofs.Walks.{found_here, found-behind, found_none}
use native.Mathlib.Omega.{arith}
use Rattle.bits.proofs.first_from.Goals as goal

pub returns-then-at-set : goal.returns-then-at-set
returns-then-at-set c =
    found_none c.args.set.now c.args.i c.if-at-set.true

pub overflow_add-result : goal.overflow_add-result
overflow_add-result c = omega (arith, c.lowest.ensures.held c.if-word-ne0.true)

pub returns-then-word-ne0 : goal.returns-then-word-ne0
returns-then-word-ne0 c =
    found_here c.args.set.now c.args.i c.from-word.result c.from-word.ensures c.lowest.result
    (omega arith) c.lowest.ensures c.if-word-ne0.true

pub returns : goal.returns
returns c =
    found-behind c.args.set.now c.args.i c.from-word.result c.from-word.ensures c.first_word.result c.if-word-ne0.false
    c.first_word.ensures
