-- `tielines::change_up` meets its contract. Assumes nothing.
use Rattle.std.proofs.Common.{◌≡◌, length, arith}
use Rattle.book.specs.Sections as section
use Rattle.book.proofs.Sections.{part-size}
use Rattle.tielines.proofs.TieEditing.{up-changed, up_unchanged, no_slot, no_lower}
use Rattle.tielines.proofs.change_up.Goals as goal

pub change_up-requires : goal.change_up-requires
change_up-requires c = (omega (arith, part-size section.ups c.args.book.now c.requires (omega arith)), c.in-Some.ensures.few)

pub returns-then-h-lt-HOLDERS : goal.returns-then-h-lt-HOLDERS
returns-then-h-lt-HOLDERS c =
    let size : length c.change_up.new.ups ≡ (section.ups).size = omega (arith, c.change_up.auto.ups, part-size section.ups c.args.book.now c.requires (omega arith)) in
    up-changed c.args.book.now c.requires c.args.h c.args.g c.in-Some.q c.in-Some.ensures.found c.in-Some.ensures.few c.change_up.new.ups size c.args.plus c.change_up.ensures

pub returns-in_default : goal.returns-in_default
returns-in_default c = up_unchanged _ c.requires c.args.h c.args.g (no_slot _ c.requires c.args.h c.args.g c.in_default.ensures.found)

pub returns-else-h-lt-HOLDERS : goal.returns-else-h-lt-HOLDERS
returns-else-h-lt-HOLDERS c = up_unchanged _ c.requires c.args.h c.args.g (no_lower _ c.requires c.args.h c.args.g (omega arith))
