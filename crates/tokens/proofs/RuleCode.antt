-- Reading one token of rule code back: what stands at its place, and that the other tokens stand behind it.
use Prim.Native.Nat.{ℕ, zero, suc, ◌+◌, ◌/◌, ◌^◌, ◌≤◌, ◌<◌}
use mathlib.Core.Path.{◌≡◌, refl, sym, ap, subst, ◌∙◌}
use mathlib.Core.List.{List, [], ◌∷◌, ◌++◌, append_assoc}
use mathlib.Core.Option.{some}
use native.Mathlib.Omega.{arith}
use native.Mathlib.Nat.{mod-add-div, pow-suc}
use lib.ListN.{length, get_or, take, drop, length-drop, length-append}
use lib.Seq.{drop-drop, get_or-drop, get_or-take, take_at, drop_at}
use Rattle.model.specs.Notation.{each}
use Rattle.model.specs.Limits.{largest_int}
use Rattle.model.specs.Bytes.{Bytes}
use Rattle.model.specs.Attributes.{Source}
use Rattle.model.specs.Truth.{Truth}
use Rattle.model.specs.Tokens.{Token, name, int, str, truth, operator, mark, Operator, Mark}
use Rattle.model.specs.Declarations.{Declarations, attribute_number}
use Rattle.model.specs.Block.{number, value_at}
use Rattle.codes.specs.Codes.{end_code, kind_of, truth_code, operator_code, mark_code}
use Rattle.codes.proofs.TokenKinds.{kind-range, by_kind, same_kind, int-kind, str-kind, name-kind, mark-kind, truth-kind, operator-kind}
use Rattle.rows.specs.Rows.{number_or}
use Rattle.tokens.specs.declared.Encoded.{Encoded}
use Rattle.tokens.specs.RuleCode.{unknown_number, low_bytes, carried_bytes, encode_token, rule_code, Coded, size, CodeOf}

-- the bytes of a number, read again
pub low-number : (k n : ℕ) → n < 256 ^ k → number (low_bytes k n) ≡ n
low-number zero n h = omega arith
low-number (suc k) n h =
    let m = mod-add-div n 256 in
    let p = pow-suc 256 k in
    let e : number (low_bytes k (n / 256)) ≡ n / 256 = low-number k (n / 256) (omega arith) in
    omega arith

-- a token's kind and what it carries are its bytes
pub size-carried : (D : Declarations) (t : Token) → size t ≡ suc (length (carried_bytes D t))
size-carried D (name s n) = refl
size-carried D (int n) = refl
size-carried D (str s) = omega arith
size-carried D (truth t) = refl
size-carried D (operator o) = refl
size-carried D (mark m) = refl

-- the code of some tokens, by the first of them
pub code-cons : (D : Declarations) (t : Token) (ts : List Token) (rest : Bytes) → rule_code D (t ∷ ts) ++ rest ≡ kind_of t ∷ (carried_bytes D t ++ (rule_code D ts ++ rest))
code-cons D t ts rest =
    ap (λ (l : Bytes). kind_of t ∷ l)
    (ap (λ (l : Bytes). l ++ rest) (append_assoc (carried_bytes D t) (each (encode_token D) ts) (end_code ∷ [])) ∙ append_assoc (carried_bytes D t) (rule_code D ts) rest)

-- where the tokens end
pub record Ended (code : Bytes) (at : ℕ) : Type 0 where
  pub within : at < length code
  pub kind : get_or code at 0 ≡ 0

-- the first of some tokens: its kind, what it carries behind it, and the other tokens behind that
pub record Front (D : Declarations) (code : Bytes) (at : ℕ) (t : Token) (ts : List Token) : Type 0 where
  pub within : at + size t < length code
  pub kind : get_or code at 0 ≡ kind_of t
  pub carries : take (length (carried_bytes D t)) (drop (at + 1) code) ≡ carried_bytes D t
  pub next : Coded D code (at + size t) ts

-- what stands from a place on
module _ (code : Bytes) (at : ℕ) where
  place-within : (x : ℕ) (l : Bytes) → drop at code ≡ x ∷ l → at + length l < length code
  place-within x l e = omega (arith, ap length e, length-drop at code)

  place_byte : (x : ℕ) (l : Bytes) → drop at code ≡ x ∷ l → get_or code at 0 ≡ x
  place_byte x l e =
      let z : at + 0 ≡ at = omega arith in
      ap (λ (k : ℕ). get_or code k 0) (sym z) ∙ sym (get_or-drop at code 0 0) ∙ ap (λ (m : Bytes). get_or m 0 0) e

  place-behind : (x : ℕ) (l : Bytes) → drop at code ≡ x ∷ l → drop (at + 1) code ≡ l
  place-behind x l e = sym (drop-drop 1 at code) ∙ ap (drop 1) e

pub coded-end : {D : Declarations} {code : Bytes} {at : ℕ} → Coded D code at [] → Ended code at
coded-end {D} {code} {at} c =
    let w = place-within code at 0 c.rest c.from in
    record { within = omega arith; kind = place_byte code at 0 c.rest c.from }

pub coded-front : {D : Declarations} {code : Bytes} {at : ℕ} {t : Token} {ts : List Token} → Coded D code at (t ∷ ts) → Front D code at t ts
coded-front {D} {code} {at} {t} {ts} c =
    let l : Bytes = carried_bytes D t ++ (rule_code D ts ++ c.rest) in
    let e : drop at code ≡ kind_of t ∷ l = c.from ∙ code-cons D t ts c.rest in
    let w = place-within code at (kind_of t) l e in
    let b : drop (at + 1) code ≡ l = place-behind code at (kind_of t) l e in
    let s : at + 1 + length (carried_bytes D t) ≡ at + size t = omega (arith, size-carried D t) in
    record {
      within = omega (arith, size-carried D t, length-append (carried_bytes D t) (rule_code D ts ++ c.rest), length-append (rule_code D ts) c.rest, length-append (each (encode_token D) ts) (end_code ∷ []));
      kind = place_byte code at (kind_of t) l e;
      carries = ap (take (length (carried_bytes D t))) b ∙ take_at (carried_bytes D t) (rule_code D ts ++ c.rest) (length (carried_bytes D t)) refl;
      next = record {
        rest = c.rest;
        from = ap (λ (k : ℕ). drop k code) (sym s) ∙ sym (drop-drop (length (carried_bytes D t)) (at + 1) code) ∙ ap (drop (length (carried_bytes D t))) b
            ∙ drop_at (carried_bytes D t) (rule_code D ts ++ c.rest) (length (carried_bytes D t)) refl;
      };
    }

pub coded-within : {D : Declarations} {code : Bytes} {at : ℕ} {ts : List Token} → Coded D code at ts → at < length code
coded-within {ts = []} c = (coded-end c).within
coded-within {ts = t ∷ ts} c = let w = (coded-front c).within in omega arith

pub coded-long : {D : Declarations} {code : Bytes} {at : ℕ} {ts : List Token} → Coded D code at ts → at + length (rule_code D ts) ≤ length code
coded-long {D} {code} {at} {ts} c =
    omega (
      arith,
      ap length c.from,
      length-drop at code,
      length-append (rule_code D ts) c.rest,
      length-append (each (encode_token D) ts) (end_code ∷ []),
    )

-- what names, ints and strs carry
module _ {D : Declarations} {code : Bytes} {at : ℕ} {ts : List Token} where
  pub name-number : {s : Source} {n : Bytes} → Coded D code at (name s n ∷ ts) → get_or code (at + 1) 0 ≡ number_or unknown_number (attribute_number D s n)
  name-number {s} {n} c =
      let z : at + 1 + 0 ≡ at + 1 = omega arith in
      ap (λ (k : ℕ). get_or code k 0) (sym z) ∙ sym (get_or-drop (at + 1) code 0 0) ∙ sym (get_or-take 1 (drop (at + 1) code) 0 0 (omega arith))
      ∙ ap (λ (l : Bytes). get_or l 0 0) (coded-front c).carries

  pub int-value : {n : ℕ} → n ≤ largest_int → Coded D code at (int n ∷ ts) → value_at code (at + 1) ≡ n
  int-value {n} h c = ap number (coded-front c).carries ∙ low-number 4 n (omega arith)

  pub str-length : {s : Bytes} → Coded D code at (str s ∷ ts) → get_or code (at + 1) 0 ≡ length s
  str-length {s} c =
      let z : at + 1 + 0 ≡ at + 1 = omega arith in
      ap (λ (k : ℕ). get_or code k 0) (sym z) ∙ sym (get_or-drop (at + 1) code 0 0) ∙ sym (get_or-take (suc (length s)) (drop (at + 1) code) 0 0 (omega arith))
      ∙ ap (λ (l : Bytes). get_or l 0 0) (coded-front c).carries

  pub str-text : {s : Bytes} → Coded D code at (str s ∷ ts) → take (length s) (drop (at + 2) code) ≡ s
  str-text {s} c = go (drop (at + 1) code) refl (coded-front c).carries
    where
      go : (l : Bytes) → drop (at + 1) code ≡ l → take (suc (length s)) l ≡ length s ∷ s → take (length s) (drop (at + 2) code) ≡ s
      go [] e f = let z : ◌≡◌ {A = ℕ} 0 (suc (length s)) = ap length f in absurd (omega arith)
      go (x ∷ l) e f =
          let z : at + 1 + 1 ≡ at + 2 = omega arith in
          ap (λ (k : ℕ). take (length s) (drop k code)) (sym z) ∙ ap (take (length s)) (sym (drop-drop 1 (at + 1) code) ∙ ap (drop 1) e) ∙ ap (drop 1) f

-- the token at a place, by the byte there
module _ {D : Declarations} {code : Bytes} {at : ℕ} {ts : List Token} (c : Coded D code at ts) where
  pub none_here : get_or code at 0 ≡ 0 → ts ≡ []
  none_here e = go ts c
    where
      go : (ts : List Token) → Coded D code at ts → ts ≡ []
      go [] d = refl
      go (t ∷ us) d = absurd (omega (arith, kind-range t, sym e ∙ (coded-front d).kind))

  pub some-here : 0 < get_or code at 0 → (t : Token) × (us : List Token) × (ts ≡ t ∷ us) × Front D code at t us
  some-here h = go ts c
    where
      go : (ts : List Token) → Coded D code at ts → (t : Token) × (us : List Token) × (ts ≡ t ∷ us) × Front D code at t us
      go [] d = absurd (omega (arith, (coded-end d).kind))
      go (t ∷ us) d = (t, us, refl, coded-front d)

  -- a token that is known, where its kind tells it or a constructor
  turned : {t u : Token} {us : List Token} → t ≡ u → ts ≡ t ∷ us → Front D code at t us → (ts ≡ u ∷ us) × Coded D code (at + size u) us
  turned {t} {u} {us} e f d = (f ∙ ap (λ (v : Token). v ∷ us) e, subst (λ (v : Token). Coded D code (at + size v) us) e d.next)

  pub fixed-here : (u : Token) → by_kind u ≡ some u → get_or code at 0 ≡ kind_of u → (us : List Token) × (ts ≡ u ∷ us) × Coded D code (at + size u) us
  fixed-here u f e =
      let (t, us, g, d) = some-here (omega (arith, kind-range u)) in
      let (a, b) = turned (same_kind t u f (sym d.kind ∙ e)) g d in
      (us, a, b)

  pub int-here : get_or code at 0 ≡ 1 → (n : ℕ) × (us : List Token) × (ts ≡ int n ∷ us) × Coded D code (at + 5) us
  int-here e =
      let (t, us, g, d) = some-here (omega arith) in
      let (n, i) = int-kind t (sym d.kind ∙ e) in
      let (a, b) = turned i g d in
      (n, us, a, b)

  pub str-here : get_or code at 0 ≡ 2 → (s : Bytes) × (us : List Token) × (ts ≡ str s ∷ us) × Coded D code (at + (length s + 2)) us
  str-here e =
      let (t, us, g, d) = some-here (omega arith) in
      let (s, i) = str-kind t (sym d.kind ∙ e) in
      let (a, b) = turned i g d in
      (s, us, a, b)

  pub name-here : get_or code at 0 ≡ 4 → (s : Source) × (n : Bytes) × (us : List Token) × (ts ≡ name s n ∷ us) × Coded D code (at + 2) us
  name-here e =
      let (t, us, g, d) = some-here (omega arith) in
      let (s, n, i) = name-kind t (sym d.kind ∙ e) in
      let (a, b) = turned i g d in
      (s, n, us, a, b)

  pub mark-here : 5 ≤ get_or code at 0 → get_or code at 0 ≤ 12
      → (m : Mark) × (us : List Token) × (get_or code at 0 ≡ mark_code m) × (ts ≡ mark m ∷ us) × Coded D code (at + 1) us
  mark-here h k =
      let (t, us, g, d) = some-here (omega arith) in
      let (m, i) = mark-kind t (omega (arith, d.kind)) (omega (arith, d.kind)) in
      let (a, b) = turned i g d in
      (m, us, d.kind ∙ ap kind_of i, a, b)

  pub truth-here : 13 ≤ get_or code at 0 → get_or code at 0 ≤ 15
      → (v : Truth) × (us : List Token) × (get_or code at 0 ≡ truth_code v) × (ts ≡ truth v ∷ us) × Coded D code (at + 1) us
  truth-here h k =
      let (t, us, g, d) = some-here (omega arith) in
      let (v, i) = truth-kind t (omega (arith, d.kind)) (omega (arith, d.kind)) in
      let (a, b) = turned i g d in
      (v, us, d.kind ∙ ap kind_of i, a, b)

  pub operator-here : 16 ≤ get_or code at 0 → (o : Operator) × (us : List Token) × (get_or code at 0 ≡ operator_code o) × (ts ≡ operator o ∷ us) × Coded D code (at + 1) us
  operator-here h =
      let (t, us, g, d) = some-here (omega arith) in
      let (o, i) = operator-kind t (omega (arith, d.kind)) in
      let (a, b) = turned i g d in
      (o, us, d.kind ∙ ap kind_of i, a, b)

-- code that is written at the front is held from there on
pub code-coded : {D : Declarations} {ts : List Token} {before after : Bytes} {r : Encoded} → CodeOf D ts before after r → Coded D after 0 ts
code-coded {D} {ts} {before} c = record { rest = drop (length (rule_code D ts)) before; from = c.code }
