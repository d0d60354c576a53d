-- `tokens::token_in` meets its contract, by the first byte.
use Prim.Native.Nat.{ℕ, ◌-◌}
use mathlib.Core.Path.{refl, sym, ap, ◌∙◌}
use mathlib.Core.Option.{none, some}
use native.Mathlib.Omega.{arith}
use borrow.Author.Rules.{rules}
use lib.ListN.{length-drop}
use Rattle.model.specs.Bytes.{Bytes}
use Rattle.model.specs.Tokens.{operator, unequal, less, at_most, greater, at_least, read_text, read_token}
use Rattle.tokens.specs.TokenAt.{sign_at, coded_read, token_in}
use Rattle.tokens.proofs.ByteRuns.{tail-part}
use Rattle.tokens.proofs.Signs.{at-end, at_sign, with-equals, without-equals, at-text, at-word}
use Rattle.tokens.proofs.token_in.Goals as goal

pub returns-then-is_empty : goal.returns-then-is_empty
returns-then-is_empty c = sym (at-end c.args.n c.args.s.now (search rules))

pub returns-in-33 : goal.returns-in-33
unfolding token_in read_token
returns-in-33 c =
    c.sign.ensures
    ∙ sym (with-equals c.args.n c.args.s.now 33 (operator unequal) (λ r. none) (search rules) c.in-33.is (λ r. refl) (sym c.equals_next-equals.ensures ∙ c.if-equals.true))

pub returns-in-33-2 : goal.returns-in-33-2
unfolding token_in read_token
returns-in-33-2 c =
    sym (without-equals c.args.n c.args.s.now 33 (operator unequal) (λ r. none) (search rules) c.in-33.is (λ r. refl) (sym c.equals_next-equals.ensures ∙ c.if-equals.false))

pub returns-in-34 : goal.returns-in-34
returns-in-34 c =
    c.text_token.ensures ∙ ap (λ (l : Bytes). coded_read c.args.n (read_text l)) (tail-part 1 c.args.s.now) ∙ sym (at-text c.args.n c.args.s.now (search rules) c.in-34.is)

pub returns-in-40 : goal.returns-in-40
unfolding token_in read_token
returns-in-40 c = c.sign-in-40.ensures ∙ sym (at_sign c.args.n c.args.s.now 40 5 (search rules) c.in-40.is (λ r. refl))

pub returns-in-41 : goal.returns-in-41
unfolding token_in read_token
returns-in-41 c = c.sign-in-41.ensures ∙ sym (at_sign c.args.n c.args.s.now 41 6 (search rules) c.in-41.is (λ r. refl))

pub returns-in-44 : goal.returns-in-44
unfolding token_in read_token
returns-in-44 c = c.sign-in-44.ensures ∙ sym (at_sign c.args.n c.args.s.now 44 9 (search rules) c.in-44.is (λ r. refl))

pub returns-in-60 : goal.returns-in-60
unfolding token_in read_token
returns-in-60 c =
    c.sign-in-60.ensures
    ∙ sym (with-equals c.args.n c.args.s.now 60 (operator at_most) (λ r. some (operator less, r)) (search rules) c.in-60.is (λ r. refl) (sym c.equals_next-equals.ensures ∙ c.if-equals-2.true))

pub returns-in-60-2 : goal.returns-in-60-2
unfolding token_in read_token
returns-in-60-2 c =
    c.sign-in-60-2.ensures ∙ ap (λ (l : ℕ). sign_at 20 (c.args.n - l)) (sym (length-drop 1 c.args.s.now))
    ∙ sym (without-equals c.args.n c.args.s.now 60 (operator at_most) (λ r. some (operator less, r)) (search rules) c.in-60.is (λ r. refl) (sym c.equals_next-equals.ensures ∙ c.if-equals-2.false))

pub returns-in-61 : goal.returns-in-61
unfolding token_in read_token
returns-in-61 c = c.sign-in-61.ensures ∙ sym (at_sign c.args.n c.args.s.now 61 16 (search rules) c.in-61.is (λ r. refl))

pub returns-in-62 : goal.returns-in-62
unfolding token_in read_token
returns-in-62 c =
    c.sign-in-62.ensures
    ∙ sym (with-equals c.args.n c.args.s.now 62 (operator at_least) (λ r. some (operator greater, r)) (search rules) c.in-62.is (λ r. refl) (sym c.equals_next-equals.ensures ∙ c.if-equals-3.true))

pub returns-in-62-2 : goal.returns-in-62-2
unfolding token_in read_token
returns-in-62-2 c =
    c.sign-in-62-2.ensures ∙ ap (λ (l : ℕ). sign_at 22 (c.args.n - l)) (sym (length-drop 1 c.args.s.now))
    ∙ sym (without-equals c.args.n c.args.s.now 62 (operator at_least) (λ r. some (operator greater, r)) (search rules) c.in-62.is (λ r. refl) (sym c.equals_next-equals.ensures ∙ c.if-equals-3.false))

pub returns-in-123 : goal.returns-in-123
unfolding token_in read_token
returns-in-123 c = c.sign-in-123.ensures ∙ sym (at_sign c.args.n c.args.s.now 123 7 (search rules) c.in-123.is (λ r. refl))

pub returns-in-125 : goal.returns-in-125
unfolding token_in read_token
returns-in-125 c = c.sign-in-125.ensures ∙ sym (at_sign c.args.n c.args.s.now 125 8 (search rules) c.in-125.is (λ r. refl))

pub returns-in_default : goal.returns-in_default
returns-in_default c =
    c.word_token.ensures ∙ sym (at-word c.args.n c.args.s.now (search rules) (record { no-33 = λ z. omega arith; no-34 = λ z. omega arith; no-40 = λ z. omega arith; no-41 = λ z. omega arith; no-44 = λ z. omega arith; no-60 = λ z. omega arith; no-61 = λ z. omega arith; no-62 = λ z. omega arith; no-123 = λ z. omega arith; no-125 = λ z. omega arith }))
