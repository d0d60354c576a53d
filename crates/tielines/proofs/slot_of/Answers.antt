-- `tielines::slot_of` meets its contract: the slot is told by the group's word. Assumes nothing.
use Rattle.std.proofs.Common.{◌≡◌, ap, Some, arith}
use Rattle.book.specs.Sections as section
use Rattle.book.proofs.HeldNumbers.{sorted-in-book}
use Rattle.book.proofs.Sections.{part-size}
use Rattle.tielines.proofs.TieFitting.{group-slot}
use Rattle.tielines.proofs.slot_of.Goals as goal

pub returns-in_err-get-clause-found : goal.returns-in_err-get-clause-found
returns-in_err-get-clause-found c S code standing held s e i =
    absurd (omega (arith, c.in_err-get.ensures.lookup.3, sorted-in-book standing held c.args.g e, part-size section.slot_of c.args.book.now c.requires (omega arith)))

pub returns-in_err-slot-clause-found : goal.returns-in_err-slot-clause-found
returns-in_err-slot-clause-found c S code standing held s e i =
    let q = group-slot standing held c.args.g s e i in
    absurd (c.in_err-slot.ensures (omega (arith, q.1, c.in_ok-get.ensures.lookup.3.1 0)))

pub returns-then-slot-lt-SLOTS-clause-found : goal.returns-then-slot-lt-SLOTS-clause-found
returns-then-slot-lt-SLOTS-clause-found c S code standing held s e i =
    let q = group-slot standing held c.args.g s e i in
    let same : c.in_ok-slot.slot ≡ q.0 = omega (arith, q.1, c.in_ok-get.ensures.lookup.3.1 0, c.in_ok-slot.ensures.1) in
    (q.0, ap Some same, q.3, q.4)

pub returns-else-slot-lt-SLOTS-clause-found : goal.returns-else-slot-lt-SLOTS-clause-found
returns-else-slot-lt-SLOTS-clause-found c S code standing held s e i =
    let q = group-slot standing held c.args.g s e i in
    absurd (omega (arith, q.1, q.2, c.in_ok-get.ensures.lookup.3.1 0, c.in_ok-slot.ensures.1, c.if-slot-lt-SLOTS.false))
