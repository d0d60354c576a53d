-- `put_atom` meets its contract.
use Rattle.model.specs.Atoms.{decimal}
use Prim.Native.Nat.{ℕ, ◌%◌}
use Rattle.spelling.specs.LineTexts.{listed_text, bool_words}
use Rattle.spelling.proofs.LaidTexts.{int-atom, str-atom, bool-atom}
use Rattle.output.proofs.Laying.{laid_as}
use mathlib.Core.Path.{sym, ap, ◌∙◌}
use native.Mathlib.Omega.{arith}
use Rattle.spelling.proofs.field.put_atom.Goals as goal

pub returns-then-ty-from : goal.returns-then-ty-from
returns-then-ty-from c =
    (laid_as (ap (λ (k : ℕ). decimal (k % 4294967296)) c.word.ensures ∙ int-atom c.args.book.now c.args.ty c.args.place (c.if-ty-from.true ∙ c.from.ensures)) c.put_decimal.ensures.0, omega (arith, c.put_decimal.ensures.1))

pub returns-then-ty-from-2 : goal.returns-then-ty-from-2
returns-then-ty-from-2 c =
    (laid_as (str-atom c.args.book.now c.args.ty c.args.place (c.if-ty-from-2.true ∙ c.from-else-ty-from.ensures)) c.put_string.ensures.0, omega (arith, c.put_string.ensures.1))

pub returns-else-ty-from-2 : goal.returns-else-ty-from-2
returns-else-ty-from-2 c =
    (laid_as (ap (listed_text bool_words) c.word-else-ty-from-2.ensures ∙ bool-atom c.args.book.now c.args.ty c.args.place (λ e. c.if-ty-from.false (e ∙ sym c.from.ensures)) (λ e. c.if-ty-from-2.false (e ∙ sym c.from-else-ty-from.ensures))) c.put_listed.ensures.0, omega (arith, c.put_listed.ensures.1))
