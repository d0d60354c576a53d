-- The token at the front, by its first byte.
use Prim.Native.Nat.{ℕ, suc, ◌-◌, ◌≤◌, ◌<◌}
use mathlib.Core.Path.{◌≡◌, refl, sym, ap, ◌∙◌}
use mathlib.Core.Bool.{Bool, true, false}
use mathlib.Core.List.{List, [], ◌∷◌}
use mathlib.Core.Option.{Option, none, some}
use native.Mathlib.Omega.{arith}
use borrow.Author.Tests.{ne_eqb}
use lib.ListN.{length, get_or, drop}
use lib.Dec.{eqb}
use Rattle.model.specs.Notation.{◌>>=◌, ◌or_else◌, is_empty, if◌then◌otherwise◌}
use Rattle.model.specs.Bytes.{Bytes, bytes, behind}
use Rattle.model.specs.Tokens.{Token, Read, run, read_word, read_text, read_sign, signs, read_token, read_attribute_name, operator, mark, unequal, at_most, at_least, equal, less, greater, lparen, rparen, lbrace, rbrace, comma}
use Rattle.model.specs.Atoms.{read_int}
use Rattle.std.specs.Prelude.{Some}
use Rattle.std.specs.Prelude as std
use Rattle.tokens.specs.declared.Placed.{Placed}
use Rattle.tokens.specs.TokenAt.{code_of, placed, end_at, sign_at, coded_read, token_in, word_token}

module _ (n : ℕ) where
  pub at-end : (s : Bytes) → length s < 1 → token_in n s ≡ end_at n
  unfolding token_in
  at-end [] h = refl
  at-end (x ∷ s) h = absurd (omega arith)

  -- a sign of one byte
  pub at_sign : (s : Bytes) (x v : ℕ) → 1 ≤ length s → get_or s 0 0 ≡ x → ((r : Bytes) → token_in n (x ∷ r) ≡ sign_at v (n - length r)) → token_in n s ≡ sign_at v (n - (length s - 1))
  at_sign [] x v h e f = absurd (omega arith)
  at_sign (y ∷ r) x v h e f =
      let m : length r ≡ suc (length r) - 1 = omega arith in
      ap (λ (z : ℕ). token_in n (z ∷ r)) e ∙ f r ∙ ap (λ (l : ℕ). sign_at v (n - l)) m

  -- a sign of two bytes where `=` is the second, else what is read without it
  pub at-equals : (s : Bytes) (x : ℕ) (t : Token) (other : Bytes → Read) → 1 ≤ length s → get_or s 0 0 ≡ x
      → ((r : Bytes) → token_in n (x ∷ r) ≡ coded_read n ((behind (61 ∷ []) r >>= λ rest. some (t, rest)) or_else other r))
      → (e : Bool) → e ≡ eqb (get_or s 1 0) 61 → (two : ℕ) → two ≡ n - (length s - 2) → (w : std.Option Placed) → w ≡ coded_read n (other (drop 1 s))
      → token_in n s ≡ (if e then Some (placed (Some (code_of t)) two) otherwise w)
  at-equals [] x t other h i f e p two q w l = absurd (omega arith)
  at-equals (a ∷ []) x t other h i f e p two q w l =
      ap (λ (z : ℕ). token_in n (z ∷ [])) i ∙ f [] ∙ sym l ∙ ap (λ (b : Bool). if b then Some (placed (Some (code_of t)) two) otherwise w) (sym p)
  at-equals (a ∷ y ∷ r) x t other h i f e p two q w l =
      ap (λ (z : ℕ). token_in n (z ∷ y ∷ r)) i ∙ f (y ∷ r) ∙ go (eqb y 61) ∙ ap (λ (b : Bool). if b then Some (placed (Some (code_of t)) two) otherwise w) (sym p)
    where
      go : (b : Bool) → coded_read n (((elim b as (λ _. Option Bytes) [ true ↦ some r | false ↦ none ]) >>= λ rest. some (t, rest)) or_else other (y ∷ r))
          ≡ (if b then Some (placed (Some (code_of t)) two) otherwise w)
      go true =
          let m : length r ≡ suc (suc (length r)) - 2 = omega arith in
          ap (λ (l : ℕ). Some (placed (Some (code_of t)) (n - l))) (m) ∙ ap (λ (l : ℕ). Some (placed (Some (code_of t)) l)) (sym q)
      go false = sym l

  -- whether `=` is the second is known
  pub with-equals : (s : Bytes) (x : ℕ) (t : Token) (other : Bytes → Read) → 1 ≤ length s → get_or s 0 0 ≡ x
      → ((r : Bytes) → token_in n (x ∷ r) ≡ coded_read n ((behind (61 ∷ []) r >>= λ rest. some (t, rest)) or_else other r))
      → eqb (get_or s 1 0) 61 ≡ true → token_in n s ≡ Some (placed (Some (code_of t)) (n - (length s - 2)))
  with-equals s x t other h i f e = at-equals s x t other h i f true (sym e) (n - (length s - 2)) refl (coded_read n (other (drop 1 s))) refl

  pub without-equals : (s : Bytes) (x : ℕ) (t : Token) (other : Bytes → Read) → 1 ≤ length s → get_or s 0 0 ≡ x
      → ((r : Bytes) → token_in n (x ∷ r) ≡ coded_read n ((behind (61 ∷ []) r >>= λ rest. some (t, rest)) or_else other r))
      → eqb (get_or s 1 0) 61 ≡ false → token_in n s ≡ coded_read n (other (drop 1 s))
  without-equals s x t other h i f e = at-equals s x t other h i f false (sym e) (n - (length s - 2)) refl (coded_read n (other (drop 1 s))) refl

  pub at-text : (s : Bytes) → 1 ≤ length s → get_or s 0 0 ≡ 34 → token_in n s ≡ coded_read n (read_text (drop 1 s))
  unfolding token_in read_token
  at-text [] h e = absurd (omega arith)
  at-text (y ∷ r) h e = ap (λ (z : ℕ). token_in n (z ∷ r)) e ∙ ap (coded_read n) (go (read_text r))
    where
      go : (o : Read) → (o or_else none) ≡ o
      go none = refl
      go (some t) = refl

-- a byte that begins no sign
behind-off : (t : ℕ) (ts : Bytes) (y : ℕ) (r : Bytes) → (y ≡ t → ⊥) → behind (t ∷ ts) (y ∷ r) ≡ none
behind-off t ts y r n = rw (behind, ne_eqb y t n)

-- a byte that begins neither a sign nor a str
pub record Other (y : ℕ) : Type 0 where
  pub no-33 : y ≡ 33 → ⊥
  pub no-34 : y ≡ 34 → ⊥
  pub no-40 : y ≡ 40 → ⊥
  pub no-41 : y ≡ 41 → ⊥
  pub no-44 : y ≡ 44 → ⊥
  pub no-60 : y ≡ 60 → ⊥
  pub no-61 : y ≡ 61 → ⊥
  pub no-62 : y ≡ 62 → ⊥
  pub no-123 : y ≡ 123 → ⊥
  pub no-125 : y ≡ 125 → ⊥

signs-off : (y : ℕ) (r : Bytes) → Other y → read_sign signs (y ∷ r) ≡ none
signs-off y r o =
    (off (operator unequal) (drop 1 signs) 33 (61 ∷ []) o.no-33
    (off (operator at_most) (drop 2 signs) 60 (61 ∷ []) o.no-60
    (off (operator at_least) (drop 3 signs) 62 (61 ∷ []) o.no-62
    (off (operator equal) (drop 4 signs) 61 ([]) o.no-61
    (off (operator less) (drop 5 signs) 60 ([]) o.no-60
    (off (operator greater) (drop 6 signs) 62 ([]) o.no-62
    (off (mark lparen) (drop 7 signs) 40 ([]) o.no-40
    (off (mark rparen) (drop 8 signs) 41 ([]) o.no-41
    (off (mark lbrace) (drop 9 signs) 123 ([]) o.no-123
    (off (mark rbrace) (drop 10 signs) 125 ([]) o.no-125
    (off (mark comma) (drop 11 signs) 44 ([]) o.no-44 refl)))))))))))
  where
    off : (t : Token) (ts : List Token) (c : ℕ) (w : Bytes) → (y ≡ c → ⊥) → read_sign ts (y ∷ r) ≡ none → ((behind (c ∷ w) (y ∷ r) >>= λ rest. some (t, rest)) or_else read_sign ts (y ∷ r)) ≡ none
    off t ts c w n e = ap (λ (o : Option Bytes). (o >>= λ rest. some (t, rest)) or_else read_sign ts (y ∷ r)) (behind-off c w y r n) ∙ e

pub at-word : (n : ℕ) (s : Bytes) → 1 ≤ length s → Other (get_or s 0 0) → token_in n s ≡ word_token n s
unfolding token_in word_token read_token read_word read_int read_attribute_name
at-word n [] h o = absurd (omega arith)
at-word n (y ∷ r) h o = go (run (y ∷ r)).0 (run (y ∷ r)).1 none-there
  where
    there : Read
    there = (behind (bytes "\"") (y ∷ r) >>= read_text) or_else read_sign signs (y ∷ r)

    none-there : there ≡ none
    none-there = ap (λ (o : Option Bytes). (o >>= read_text) or_else read_sign signs (y ∷ r)) (behind-off 34 [] y r o.no-34) ∙ signs-off y r o

    go : (w rest : Bytes) → there ≡ none
        → coded_read n (elim (is_empty w) as (λ _. Read) [ true ↦ there | false ↦ read_word w >>= λ t. some (t, rest) ]) ≡ coded_read n (read_word w >>= λ t. some (t, rest))
    go [] rest e = ap (coded_read n) e
    go (x ∷ w) rest e = refl
