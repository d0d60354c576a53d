-- `tielines::change_value` meets its contract. Assumes nothing.
use Rattle.std.proofs.Common.{◌≡◌, length, arith}
use Rattle.book.specs.Sections as section
use Rattle.book.proofs.Sections.{part-size}
use Rattle.tielines.proofs.TieEditing.{value-changed, value-unchanged, no_value}
use Rattle.tielines.proofs.change_value.Goals as goal

pub returns-then-p-lt-PAIRS : goal.returns-then-p-lt-PAIRS
returns-then-p-lt-PAIRS c =
    let size : length c.change_value.new.own ≡ (section.own).size = omega (arith, c.change_value.auto.own, part-size section.own c.args.book.now c.requires (omega arith)) in
    value-changed c.args.book.now c.requires c.args.h c.args.p c.change_value.new.own size c.args.plus c.change_value.ensures

pub returns-else-h-lt-HOLDERS : goal.returns-else-h-lt-HOLDERS
returns-else-h-lt-HOLDERS c = value-unchanged c.args.book.now c.requires c.args.h c.args.p (no_value _ c.requires c.args.h c.args.p c.else-h-lt-HOLDERS.either)
