-- `request::entry_fits` meets its contract. Assumes nothing.
use mathlib.Core.Path.{sym, ◌∙◌}
use mathlib.Core.Bool.{true≢false}
use borrow.Author.Tests.{le-ltb}
use Rattle.request.proofs.EntryTests.{fits-outside, fits-held, fits-typed, fits-bool}
use Rattle.request.proofs.entry_fits.Goals as goal
use Rattle.request.proofs.entry_fits.Goals.{then-i-lt32, else-i-lt32}

pub returns-then-attributes-i-2 : goal.returns-then-attributes-i-2
returns-then-attributes-i-2 c = λ D ar. elim c.if-i-lt32.branch [
  | then-i-lt32 w ↦ fits-typed c.args.attributes.now c.from-i.result c.args.k c.args.value c.from-i.ensures D ar
      w.if-i-lt32.true (sym w.value-is ∙ c.if-attributes-i.true) c.if-attributes-i-2.true
  | else-i-lt32 w ↦ absurd (true≢false (sym c.if-attributes-i.true ∙ w.value-is ∙ le-ltb _ 32 w.if-i-lt32.false))
]

pub returns-else-attributes-i-2 : goal.returns-else-attributes-i-2
returns-else-attributes-i-2 c = λ D ar. elim c.if-i-lt32.branch [
  | then-i-lt32 w ↦ fits-bool c.args.attributes.now c.from-i.result c.args.k c.args.value c.from-i.ensures D ar
      w.if-i-lt32.true (sym w.value-is ∙ c.if-attributes-i.true) c.if-attributes-i-2.false
  | else-i-lt32 w ↦ absurd (true≢false (sym c.if-attributes-i.true ∙ w.value-is ∙ le-ltb _ 32 w.if-i-lt32.false))
]

pub returns-else-attributes-i : goal.returns-else-attributes-i
returns-else-attributes-i c = λ D ar. c.if-attributes-i.false ∙ elim c.if-i-lt32.branch [
  | then-i-lt32 w ↦ fits-held c.args.attributes.now c.from-i.result c.args.k c.args.value c.from-i.ensures D ar (sym w.value-is ∙ c.if-attributes-i.false)
  | else-i-lt32 w ↦ fits-outside c.args.attributes.now c.from-i.result c.args.k c.args.value c.from-i.ensures D ar w.if-i-lt32.false
]
