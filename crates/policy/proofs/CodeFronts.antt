-- What a byte of rule code says of the tokens from its place on.
use Prim.Native.Nat.{ℕ, ◌+◌, ◌≤◌, ◌<◌}
use mathlib.Core.Path.{◌≡◌, refl, sym, ap, subst, ◌∙◌}
use mathlib.Core.Bool.{Bool, true, false}
use mathlib.Core.List.{List, [], ◌∷◌}
use mathlib.Core.Option.{none, some}
use native.Mathlib.Omega.{arith}
use native.Mathlib.Decide.{dec_lt}
use lib.ListN.{length, get_or, get_or-eq_default}
use Rattle.model.specs.Notation.{only_if, any_of}
use Rattle.model.specs.Bytes.{Bytes}
use Rattle.model.specs.Tokens.{Token, name, int, str, truth, operator, mark, Mark, Operator, mark_word, as_constant, is_token}
use Rattle.model.specs.Grammar.{is_mark, behind_mark, read_operator}
use Rattle.model.specs.Refusals.{unknown_name}
use Rattle.model.proofs.Lists.{all-parts}
use Rattle.model.proofs.WordTables.{false-is-true, same_word, marks, reads-mark, same_refl}
use Rattle.codes.specs.Codes.{kind_of, mark_code, operator_code}
use Rattle.codes.proofs.TokenKinds.{operator-range}
use Rattle.tokens.specs.RuleCode.{size}
use Rattle.tokens.proofs.RuleCode.{coded-end, coded-front, fixed-here, operator-here}
use Rattle.policy.specs.Readers.{Asked, From}

-- a byte that is not 0 lies in the code
pub inside : (code : Bytes) (at : ℕ) → 0 < get_or code at 0 → at < length code
inside code at h = go (dec_lt at (length code))
  where
    go : Dec (at < length code) → at < length code
    go (yes i) = i
    go (no i) = absurd (omega (arith, get_or-eq_default code 0 {n = at} (omega arith)))

pub none_passes : {A : Type 0} (p : A → Bool) (x : A) (xs : List A) → any_of p (x ∷ xs) ≡ false → (p x ≡ false) × (any_of p xs ≡ false)
none_passes p x xs e = go (p x) refl e
  where
    go : (b : Bool) → p x ≡ b → elim b as (λ _. Bool) [ true ↦ true | false ↦ any_of p xs ] ≡ false → (p x ≡ false) × (any_of p xs ≡ false)
    go true f g = false-is-true (sym g)
    go false f g = (f, g)

-- the first token, and the tokens behind it
pub record FrontToken (code : Bytes) (A : Asked) (at : ℕ) (t : Token) (ts : List Token) : Type 0 where
  pub kind-is : get_or code at 0 ≡ kind_of t
  pub within : at + size t < length code
  pub written : A.valued ≡ true → is_token t ≡ true
  pub known : A.valued ≡ true → unknown_name A.declared t ≡ false
  pub behind : From code A (at + size t) ts

module _ {code : Bytes} {A : Asked} {at : ℕ} where
  pub ended : From code A at [] → get_or code at 0 ≡ 0
  ended f = (coded-end f.coded).kind

  pub told : {t : Token} {ts : List Token} → From code A at (t ∷ ts) → FrontToken code A at t ts
  told {t} {ts} f =
      let c = coded-front f.coded in
      record {
        kind-is = c.kind;
        within = c.within;
        written = λ v. (all-parts is_token t ts (f.written v)).0;
        known = λ v. (none_passes (unknown_name A.declared) t ts (f.known v)).0;
        behind = record {
          coded = c.next;
          written = λ v. (all-parts is_token t ts (f.written v)).1;
          known = λ v. (none_passes (unknown_name A.declared) t ts (f.known v)).1;
        };
      }

pub is-mark : (m k : Mark) → is_mark m k ≡ true → m ≡ k
is-mark m k e = same_word mark_word marks reads-mark m k e

pub isnt-mark : (m k : Mark) → (mark_code k ≡ mark_code m → ⊥) → is_mark m k ≡ false
isnt-mark m k n = go (is_mark m k) refl
  where
    go : (b : Bool) → is_mark m k ≡ b → b ≡ false
    go true e = absurd (n (ap mark_code (sym (is-mark m k e))))
    go false e = refl

pub behind-mark : (m : Mark) (rest : List Token) → behind_mark m (mark m ∷ rest) ≡ some rest
behind-mark m rest = ap (λ (b : Bool). only_if b rest) (same_refl (mark_word m))

-- a mark at the front, by its number
pub record FrontMark (m : Mark) (code : Bytes) (A : Asked) (at : ℕ) (ts : List Token) : Type 0 where
  pub rest : List Token
  pub split : ts ≡ mark m ∷ rest
  pub behind : From code A (at + 1) rest

module _ (m : Mark) (code : Bytes) (A : Asked) (at : ℕ) where
  pub mark_on : (ts : List Token) → From code A at ts → get_or code at 0 ≡ mark_code m → FrontMark m code A at ts
  mark_on ts f e =
      let (us, g, c) = fixed-here f.coded (mark m) refl e in
      record { rest = us; split = g; behind = (told (subst (From code A at) g f)).behind }

  pub mark-off : (ts : List Token) → From code A at ts → (get_or code at 0 ≡ mark_code m → ⊥) → behind_mark m ts ≡ none
  mark-off [] f n = refl
  mark-off (name a b ∷ ts) f n = refl
  mark-off (int b ∷ ts) f n = refl
  mark-off (str b ∷ ts) f n = refl
  mark-off (truth v ∷ ts) f n = refl
  mark-off (operator o ∷ ts) f n = refl
  mark-off (mark k ∷ ts) f n = ap (λ (b : Bool). only_if b ts) (isnt-mark m k (λ e. n ((told f).kind-is ∙ e)))

-- an operator at the front, by its number
module _ (code : Bytes) (A : Asked) (at : ℕ) where
  pub operator-on : (ts : List Token) → From code A at ts → 16 ≤ get_or code at 0
      → (o : Operator) × (rest : List Token) × (get_or code at 0 ≡ operator_code o) × (ts ≡ operator o ∷ rest) × From code A (at + 1) rest
  operator-on ts f h =
      let (o, us, k, g, c) = operator-here f.coded h in
      (o, us, k, g, (told (subst (From code A at) g f)).behind)

  pub operator-off : (ts : List Token) → From code A at ts → (16 ≤ get_or code at 0 → get_or code at 0 ≤ 23 → ⊥) → read_operator ts ≡ none
  operator-off [] f n = refl
  operator-off (name x b ∷ ts) f n = refl
  operator-off (int b ∷ ts) f n = refl
  operator-off (str b ∷ ts) f n = refl
  operator-off (truth v ∷ ts) f n = refl
  operator-off (operator o ∷ ts) f n = absurd (n (omega (arith, (told f).kind-is, operator-range o)) (omega (arith, (told f).kind-is, operator-range o)))
  operator-off (mark m ∷ ts) f n = refl

  -- no constant at the front, by its number
  pub constant-off : (t : Token) (ts : List Token) → From code A at (t ∷ ts) → (1 ≤ get_or code at 0 → get_or code at 0 ≤ 2 → ⊥) → as_constant t ≡ none
  constant-off (name x n) ts f k = refl
  constant-off (int n) ts f k = absurd (k (omega (arith, (told f).kind-is)) (omega (arith, (told f).kind-is)))
  constant-off (str n) ts f k = absurd (k (omega (arith, (told f).kind-is)) (omega (arith, (told f).kind-is)))
  constant-off (truth v) ts f k = refl
  constant-off (operator o) ts f k = refl
  constant-off (mark m) ts f k = refl
