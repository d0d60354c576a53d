-- What is written for a token, as the code has it.
use Prim.Native.Nat.{ℕ, ◌+◌, ◌-◌, ◌≤◌}
use mathlib.Core.Path.{◌≡◌, refl, sym, ap, ap₂, ◌∙◌}
use mathlib.Core.Bool.{false}
use mathlib.Core.List.{List, [], ◌∷◌}
use native.Mathlib.Omega.{arith}
use Rattle.std.specs.Prelude.{Option, Some, None}
use lib.ListN.{length, take, drop}
use Rattle.model.specs.Bytes.{Bytes}
use Rattle.model.specs.Attributes as attributes
use Rattle.model.specs.Tokens as model
use Rattle.model.specs.Tokens.{name, int, str, truth, operator, mark, is_token}
use Rattle.model.specs.Declarations.{Declarations}
use Rattle.model.specs.Refusals.{unknown_name}
use Rattle.codes.specs.Codes.{kind_of}
use Rattle.codes.specs.Enums.{source_for}
use Rattle.codes.specs.declared.Source.{Source}
use Rattle.text.specs.declared.Packed.{Packed}
use Rattle.text.specs.Packing.{packed_of}
use Rattle.text.proofs.Packing.{text-length}
use Rattle.tokens.specs.declared.Token.{Token}
use Rattle.tokens.specs.declared.Token.TheVariants.{Name, Int, Str, Sign}
use Rattle.tokens.specs.declared.Placed.{Placed}
use Rattle.tokens.specs.declared.Encoded.{Encoded}
use Rattle.tokens.specs.RuleCode.{low_bytes, encode_token, size}
use Rattle.tokens.specs.TokenAt.{code_of}
use Rattle.output.specs.Laid.{Laid}
use Rattle.tokens.specs.Writing.{NamePut, TokenStands, Given, ended, token, Wrote}

-- the token that the code has so
int-is : (u : model.Token) (n : ℕ) → code_of u ≡ Int n → u ≡ int n
int-is (name a m) n e = cc
int-is (int m) n e = let z : m ≡ n = cc in ap int z
int-is (str m) n e = cc
int-is (truth m) n e = cc
int-is (operator m) n e = cc
int-is (mark m) n e = cc

str-is : (u : model.Token) (n : ℕ) → code_of u ≡ Str n → (w : Bytes) × (u ≡ str w) × (n ≡ length w)
str-is (name a m) n e = cc
str-is (int m) n e = cc
str-is (str m) n e = let z : n ≡ length m = cc in (m, refl, z)
str-is (truth m) n e = cc
str-is (operator m) n e = cc
str-is (mark m) n e = cc

name-is : (u : model.Token) (s : Source) (p : Packed) → code_of u ≡ Name s p → (a : attributes.Source) × (m : Bytes) × (u ≡ name a m) × (s ≡ source_for a) × (packed_of m ≡ p)
name-is (name a m) s p e =
    let x : s ≡ source_for a = cc in
    let y : packed_of m ≡ p = cc in
    (a, m, refl, x, y)
name-is (int m) s p e = cc
name-is (str m) s p e = cc
name-is (truth m) s p e = cc
name-is (operator m) s p e = cc
name-is (mark m) s p e = cc

sign-is : (u : model.Token) (k : ℕ) → code_of u ≡ Sign k → (1 ≡ size u) × ((D : Declarations) → (k ∷ [] ≡ encode_token D u) × (false ≡ unknown_name D u))
sign-is (name a m) k e = cc
sign-is (int m) k e = cc
sign-is (str m) k e = cc
sign-is (truth m) k e = let z : k ≡ kind_of (truth m) = cc in (refl, λ D. (ap (λ (j : ℕ). j ∷ []) z, refl))
sign-is (operator m) k e = let z : k ≡ kind_of (operator m) = cc in (refl, λ D. (ap (λ (j : ℕ). j ∷ []) z, refl))
sign-is (mark m) k e = let z : k ≡ kind_of (mark m) = cc in (refl, λ D. (ap (λ (j : ℕ). j ∷ []) z, refl))

-- the token that stands there, by what the code has
module _ {s : Bytes} {t : Placed} {u : model.Token} (st : TokenStands s t u) where
  code-is : (c : Token) → t.token ≡ Some c → code_of u ≡ c
  code-is c e = let f = st.code in let z : Some (code_of u) ≡ Some c = sym f ∙ e in cc

  no-end : {A : Type 0} → t.token ≡ None → A
  no-end e = let f = st.code in let z : None ≡ Some (code_of u) = sym e ∙ f in cc

not_end : {A : Type 0} {o : Option Token} (c : Token) → o ≡ None → o ≡ Some c → A
not_end c e f = let z : None ≡ Some c = sym e ∙ f in cc

-- what there is room for
module _ {s : Bytes} {t : Placed} {at n : ℕ} where
  pub room-end : Given s t at n → t.token ≡ None → at ≤ n
  room-end (ended e h) k = h
  room-end (token u st h) k = no-end st k

  pub room-sign : (k : ℕ) → Given s t at n → t.token ≡ Some (Sign k) → at + 1 ≤ n
  room-sign k (ended e h) f = not_end (Sign k) e f
  room-sign k (token u st h) f = omega (arith, (sign-is u k (code-is st (Sign k) f)).0)

  pub room_int : (k : ℕ) → Given s t at n → t.token ≡ Some (Int k) → at + 5 ≤ n
  room_int k (ended e h) f = not_end (Int k) e f
  room_int k (token u st h) f = omega (arith, ap size (int-is u k (code-is st (Int k) f)))

  pub room-name : (a : Source) (p : Packed) → Given s t at n → t.token ≡ Some (Name a p) → at + 2 ≤ n
  room-name a p (ended e h) f = not_end (Name a p) e f
  room-name a p (token u st h) f = let (b, m, e, x, y) = name-is u a p (code-is st (Name a p) f) in omega (arith, ap size e)

  pub room-text : (k : ℕ) → Given s t at n → t.token ≡ Some (Str k) → (k + 1 ≤ t.next) × (t.next ≤ length s) × (at + (k + 2) ≤ n) × (k ≤ 255)
  room-text k (ended e h) f = not_end (Str k) e f
  room-text k (token u st h) f =
      let (w, e, l) = str-is u k (code-is st (Str k) f) in
      let a = (st.text w e).0 in
      let b = st.within in
      let z = text-length w (ap is_token (sym e) ∙ st.well) in
      let y : size u ≡ length w + 2 = ap size e in
      (omega arith, omega arith, omega arith, omega arith)

-- what is written
module _ {s : Bytes} {attributes : List ℕ} {t : Placed} {before : Bytes} {at : ℕ} where
  pub wrote-end : {r : Encoded} → t.token ≡ None → r.len ≡ at → r.unknown ≡ false → Wrote s attributes t before at before r
  wrote-end k l e =
      record {
        bytes = [];
        laid = record { is = refl; behind = l ∙ omega arith };
        end = λ _. (refl, e);
        long = λ u st. no-end st k;
        token = λ D ord ar u st. no-end st k;
      }

  module _ {after : Bytes} {r : Encoded} where
    pub wrote-int : (n : ℕ) → t.token ≡ Some (Int n) → Laid before at (1 ∷ low_bytes 4 n) after r.len → r.unknown ≡ false → Wrote s attributes t before at after r
    wrote-int n k p e =
        record {
          bytes = 1 ∷ low_bytes 4 n;
          laid = p;
          end = λ f. not_end (Int n) f k;
          long = λ u st. sym (ap size (int-is u n (code-is st (Int n) k)));
          token = λ D ord ar u st. let f = int-is u n (code-is st (Int n) k) in (sym (ap (encode_token D) f), e ∙ sym (ap (unknown_name D) f));
        }

    pub wrote-text : (n : ℕ) → t.token ≡ Some (Str n) → (v : Bytes) → v ≡ take (t.next - 1 - (t.next - 1 - n)) (drop (t.next - 1 - n) s)
        → Laid before at (2 ∷ length v ∷ v) after r.len → r.unknown ≡ false → Wrote s attributes t before at after r
    wrote-text n k v q p e =
        record {
          bytes = 2 ∷ length v ∷ v;
          laid = p;
          end = λ f. not_end (Str n) f k;
          long = λ u st. let (w, f, g) = spelt u st in omega (arith, ap length g, ap size f);
          token = λ D ord ar u st.
              let (w, f, g) = spelt u st in
              (ap (λ (l : Bytes). 2 ∷ length l ∷ l) g ∙ sym (ap (encode_token D) f), e ∙ sym (ap (unknown_name D) f));
        }
      where
        spelt : (u : model.Token) → TokenStands s t u → (w : Bytes) × (u ≡ str w) × (v ≡ w)
        spelt u st =
            let (w, f, l) = str-is u n (code-is st (Str n) k) in
            let (a, b) = st.text w f in
            let z : t.next - 1 - (t.next - 1 - n) ≡ length w = omega arith in
            let y : t.next - 1 - n ≡ t.next - 1 - length w = omega arith in
            (w, f, q ∙ ap₂ (λ (i j : ℕ). take i (drop j s)) z y ∙ b)

    pub wrote-name : (a : Source) (m : Packed) → t.token ≡ Some (Name a m) → NamePut attributes a m before at after r → Wrote s attributes t before at after r
    wrote-name a m k p =
        record {
          bytes = 4 ∷ p.byte ∷ [];
          laid = p.laid;
          end = λ f. not_end (Name a m) f k;
          long = λ u st. let (b, w, f, x, y) = name-is u a m (code-is st (Name a m) k) in sym (ap size f);
          token = λ D ord ar u st.
              let (b, w, f, x, y) = name-is u a m (code-is st (Name a m) k) in
              let (g, h) = p.number D ord ar b w (ap is_token (sym f) ∙ st.well) x y in
              (ap (λ (c : ℕ). 4 ∷ c ∷ []) g ∙ sym (ap (encode_token D) f), h ∙ sym (ap (unknown_name D) f));
        }

    pub wrote-sign : (n : ℕ) → t.token ≡ Some (Sign n) → Laid before at (n ∷ []) after r.len → r.unknown ≡ false → Wrote s attributes t before at after r
    wrote-sign n k p e =
        record {
          bytes = n ∷ [];
          laid = p;
          end = λ f. not_end (Sign n) f k;
          long = λ u st. (sign-is u n (code-is st (Sign n) k)).0;
          token = λ D ord ar u st. let (x, y) = (sign-is u n (code-is st (Sign n) k)).1 D in (x, e ∙ y);
        }
