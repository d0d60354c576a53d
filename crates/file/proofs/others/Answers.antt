-- `file::others` meets its contract: the answer from here on is the answer of the rest. Assumes nothing.
use Rattle.std.proofs.Common.{◌≡◌, ◌<◌, refl, length, arith}
use borrow.Author.Tests.{true-eqb, false-eqb}
use Rattle.text.proofs.LoopPlaces.{done}
use Rattle.file.proofs.Files.{onward-starts, onward-ends, onward-refused, onward-next}
use Rattle.file.proofs.others.Goals as goal

pub loop-left-init : goal.loop-left-init
loop-left-init c = (c.requires.0, c.requires.1, omega arith, onward-starts c.args.book.now c.args.code.now c.args.rest.now)

pub returns-in-Err : goal.returns-in-Err
returns-in-Err c held =
    let more : 0 < length c.loop-left.left.now = omega (arith, false-eqb (length c.loop-left.left.now) 0 c.loop-left-test.ensures) in
    onward-refused (c.loop-left.invariant.3 held) c.first_line-end.ensures more c.in-Err.ensures refl

pub loop-left-preserved : goal.loop-left-preserved
loop-left-preserved c =
    let more : 0 < length c.loop-left.left.now = omega (arith, false-eqb (length c.loop-left.left.now) 0 c.loop-left-test.ensures) in (
      omega (arith, c.read.auto, c.loop-left.invariant.0),
      omega (arith, c.read.auto, c.loop-left.invariant.1),
      omega (arith, c.loop-left.invariant.2, c.first_line-end.ensures.shorter more),
      λ held. rw c.from-previous.ensures (onward-next (c.loop-left.invariant.3 held) c.first_line-end.ensures more c.in-Ok.ensures refl),
    )

pub returns : goal.returns
returns c held =
    let end : length c.loop-left.left.now ≡ 0 = true-eqb (length c.loop-left.left.now) 0 c.loop-left-test.ensures in
    onward-ends (c.loop-left.invariant.3 held) (done c.loop-left.left.now 0 (omega arith))
