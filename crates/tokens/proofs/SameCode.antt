-- Equal code is equal tokens, for tokens that can be written and names that are declared.
use Prim.Native.Nat.{ℕ, ◌+◌}
use mathlib.Core.Path.{◌≡◌, refl, sym, ap, ap₂, subst, ◌∙◌}
use mathlib.Core.Bool.{Bool, true, false, true≢false}
use mathlib.Core.List.{List, [], ◌∷◌, append-nil}
use mathlib.Core.Option.{Option, none, some}
use native.Mathlib.Omega.{arith}
use borrow.Author.Tests.{leb-true}
use lib.ListN.{length, take, drop}
use Rattle.model.specs.Notation.{all_of, any_of, is_none}
use Rattle.model.specs.Limits.{largest_int}
use Rattle.model.specs.Bytes.{Bytes}
use Rattle.model.specs.Tokens.{Token, name, int, str, truth, operator, mark, is_token}
use Rattle.model.specs.Declarations.{Declarations, attribute_number}
use Rattle.model.specs.Refusals.{unknown_name}
use Rattle.model.proofs.Lists.{all-parts}
use Rattle.codes.proofs.TokenKinds.{kind-range, same_kind, int-kind, str-kind, name-kind}
use Rattle.rows.specs.Rows.{number_or}
use Rattle.rows.proofs.RowsOfAttributes.{number-injective}
use Rattle.tokens.specs.RuleCode.{unknown_number, rule_code, Coded, size}
use Rattle.tokens.proofs.RuleCode.{coded-end, coded-front, name-number, int-value, str-length, str-text}

-- none of some tokens passes: neither the first nor the others
any-parts : {A : Type 0} (p : A → Bool) (x : A) (xs : List A) → any_of p (x ∷ xs) ≡ false → (p x ≡ false) × (any_of p xs ≡ false)
any-parts p x xs e = go (p x) e
  where
    go : (t : Bool) → elim t as (λ _. Bool) [ true ↦ true | false ↦ any_of p xs ] ≡ false → (t ≡ false) × (any_of p xs ≡ false)
    go true f = absurd (true≢false f)
    go false f = (refl, f)

-- a declared name has a number
declared-number : (o : Option ℕ) → is_none o ≡ false → o ≡ some (number_or unknown_number o)
declared-number none e = absurd (true≢false e)
declared-number (some k) e = refl

module _ (D : Declarations) (code : Bytes) (at : ℕ) (ts us : List Token) where
  token-unique : (t u : Token) → Coded D code at (t ∷ ts) → Coded D code at (u ∷ us) → is_token t ≡ true → is_token u ≡ true
      → unknown_name D t ≡ false → unknown_name D u ≡ false → t ≡ u
  token-unique (truth a) u c d p q x y = sym (same_kind u (truth a) refl (sym (coded-front d).kind ∙ (coded-front c).kind))
  token-unique (operator a) u c d p q x y = sym (same_kind u (operator a) refl (sym (coded-front d).kind ∙ (coded-front c).kind))
  token-unique (mark a) u c d p q x y = sym (same_kind u (mark a) refl (sym (coded-front d).kind ∙ (coded-front c).kind))
  token-unique (int n) u c d p q x y =
      let (m, e) = int-kind u (sym (coded-front d).kind ∙ (coded-front c).kind) in
      let d' = subst (λ (v : Token). Coded D code at (v ∷ us)) e d in
      ap int (sym (int-value (leb-true n largest_int p) c) ∙ int-value (leb-true m largest_int (ap is_token (sym e) ∙ q)) d') ∙ sym e
  token-unique (str s) u c d p q x y =
      let (r, e) = str-kind u (sym (coded-front d).kind ∙ (coded-front c).kind) in
      let d' = subst (λ (v : Token). Coded D code at (v ∷ us)) e d in
      let l : length s ≡ length r = sym (str-length c) ∙ str-length d' in
      ap str (sym (str-text c) ∙ ap (λ (k : ℕ). take k (drop (at + 2) code)) l ∙ str-text d') ∙ sym e
  token-unique (name s n) u c d p q x y =
      let (t, m, e) = name-kind u (sym (coded-front d).kind ∙ (coded-front c).kind) in
      let d' = subst (λ (v : Token). Coded D code at (v ∷ us)) e d in
      let k = number_or unknown_number (attribute_number D s n) in
      let f : number_or unknown_number (attribute_number D t m) ≡ k = sym (name-number d') ∙ name-number c in
      let (a, b) = number-injective D s t n m k (declared-number (attribute_number D s n) x)
      (declared-number (attribute_number D t m) (ap (unknown_name D) (sym e) ∙ y) ∙ ap {B = Option ℕ} some f) in
      ap₂ name a b ∙ sym e

-- tokens in order, of declared names
pub record Known (D : Declarations) (ts : List Token) : Type 0 where
  pub well : all_of is_token ts ≡ true
  pub declared : any_of (unknown_name D) ts ≡ false

pub coded-unique : (D : Declarations) (code : Bytes) (at : ℕ) (ts us : List Token) → Known D ts → Known D us → Coded D code at ts → Coded D code at us → ts ≡ us
coded-unique D code at [] [] k l c d = refl
coded-unique D code at [] (u ∷ us) k l c d = absurd (omega (arith, kind-range u, sym (coded-end c).kind ∙ (coded-front d).kind))
coded-unique D code at (t ∷ ts) [] k l c d = absurd (omega (arith, kind-range t, sym (coded-end d).kind ∙ (coded-front c).kind))
coded-unique D code at (t ∷ ts) (u ∷ us) k l c d =
    let (p, ps) = all-parts is_token t ts k.well in
    let (q, qs) = all-parts is_token u us l.well in
    let (x, xs) = any-parts (unknown_name D) t ts k.declared in
    let (y, ys) = any-parts (unknown_name D) u us l.declared in
    let e : t ≡ u = token-unique D code at ts us t u c d p q x y in
    let r = coded-unique D code (at + size t) ts us (record { well = ps; declared = xs }) (record { well = qs; declared = ys })
    (coded-front c).next (subst (λ (v : Token). Coded D code (at + size v) us) (sym e) (coded-front d).next) in
    ap₂ (λ (v : Token) (vs : List Token). v ∷ vs) e r

pub code-injective : (D : Declarations) (ts us : List Token) → Known D ts → Known D us → rule_code D ts ≡ rule_code D us → ts ≡ us
code-injective D ts us k l e =
    coded-unique D (rule_code D ts) 0 ts us k l (record { rest = []; from = sym (append-nil (rule_code D ts)) }) (record { rest = []; from = e ∙ sym (append-nil (rule_code D us)) })
