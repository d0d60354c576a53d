-- `tielines::closes` meets its contract. Assumes nothing.
use Rattle.std.proofs.Common.{arith}
use Rattle.model.specs.Declarations.{holder_numbers_of}
use Rattle.ties.specs.TieArrays.{ClosesCircle}
use Rattle.book.specs.Sections as section
use Rattle.book.specs.Sections.{section_words}
use Rattle.book.proofs.HeldNumbers.{holder-in-book}
use Rattle.book.proofs.Sections.{part-size}
use Rattle.tielines.proofs.TieEditing.{no-circle}
use Rattle.tielines.proofs.closes.Goals as goal

pub returns-in_default : goal.returns-in_default
returns-in_default c S code standing held = no-circle c.args.t c.in_default.not-Parent (holder_numbers_of S.declared) S.ties

pub returns : goal.returns
unfolding ClosesCircle
returns c S code standing held =
    rw c.in-Parent.is
    (c.closes_circle.ensures S.declared S.ties (section_words section.own c.args.book.now) standing held.ties
    (λ k h. omega (arith, part-size section.ups c.args.book.now c.requires (omega arith), holder-in-book standing held k h)))
