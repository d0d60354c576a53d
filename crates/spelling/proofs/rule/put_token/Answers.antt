-- `put_token` meets its contract.
use Prim.Native.Nat.{ℕ}
use mathlib.Core.Path.{sym, ap, ◌∙◌}
use native.Mathlib.Omega.{arith}
use Rattle.std.proofs.lemmas.Grind.{common_steps}
use Rattle.model.specs.Atoms.{decimal}
use Rattle.output.proofs.Laying.{laid_as}
use Rattle.spelling.specs.LineTexts.{listed_text, token_words, attribute_at, attribute_text}
use Rattle.spelling.proofs.RuleTexts.{int-token, str-token, name-token, plain-token}
use Rattle.spelling.proofs.rule.put_token.Goals as goal

pub returns-in-1 : goal.returns-in-1
returns-in-1 c =
    let (text, size) = int-token c.args.book.now c.args.code.now c.args.place (sym c.byte.ensures ∙ c.in-1.is) in
    (laid_as (ap decimal c.four.ensures ∙ text) c.put_decimal.ensures.0, omega (arith, c.put_decimal.ensures.1, size))

pub returns-in-2 : goal.returns-in-2
returns-in-2 c =
    let (text, size) = str-token c.args.book.now c.args.code.now c.args.place (sym c.byte.ensures ∙ c.in-2.is) in
    (laid_as text c.put_string.ensures.0, omega (arith, c.put_string.ensures.1, size))

pub returns-in-4 : goal.returns-in-4
returns-in-4 c =
    let (text, size) = name-token c.args.book.now c.args.code.now c.args.place (sym c.byte.ensures ∙ c.in-4.is) in
    (laid_as (ap (λ (k : ℕ). attribute_text c.args.book.now (attribute_at k)) (c.from.ensures ∙ c.byte-in-4.ensures) ∙ text) c.put_attribute.ensures.0, omega (arith, c.put_attribute.ensures.1, size))

pub returns-in_default : goal.returns-in_default
returns-in_default c =
    let (text, size) =
    plain-token c.args.book.now c.args.code.now c.args.place (λ e. grind (arith, common_steps)) (λ e. grind (arith, common_steps)) (λ e. grind (arith, common_steps)) in
    (laid_as (ap (listed_text token_words) c.byte.ensures ∙ text) c.put_token.ensures.0, omega (arith, c.put_token.ensures.1, size))
