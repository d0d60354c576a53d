-- The token at a place: what it says of the tokens from there on, and how much code there is for them.
use Prim.Native.Nat.{ℕ, zero, suc, ◌+◌, ◌-◌, ◌*◌, ◌≤◌, ◌<◌}
use mathlib.Core.Path.{◌≡◌, refl, sym, ap, subst, ◌∙◌}
use mathlib.Core.Bool.{Bool, true, false}
use mathlib.Core.List.{List, [], ◌∷◌, ◌++◌, append_assoc}
use mathlib.Core.Option.{Option, none, some, some-injective}
use native.Mathlib.Omega.{arith}
use native.Mathlib.Decide.{dec_lt}
use lib.ListN.{length, take, drop, length-append, length-drop}
use lib.Seq.{drop-drop, drop_at, take_at}
use Rattle.model.specs.Notation.{◌>>=◌, is_empty, all_of}
use Rattle.model.specs.Bytes.{Bytes, is_byte}
use Rattle.model.specs.Tokens.{Token, str, Read, word_byte, read_token, tokens_within, tokens_of, is_token}
use Rattle.model.proofs.Options.{bound, condition}
use Rattle.model.proofs.Lists.{all_cons}
use Rattle.tokens.specs.RuleCode.{size}
use Rattle.std.specs.Prelude.{Some, None}
use Rattle.tokens.specs.TokenAt.{code_of, placed, end_at, coded_read, unspaced, token_in, token_at, lead}
use Rattle.tokens.proofs.ByteRuns.{unspaced-lead}
use Rattle.tokens.proofs.Taken.{Taken, taken, Cost, word, other}

-- a token leaves fewer bytes
shorter : (s : Bytes) {t : Token} {rest : Bytes} → Taken s t rest → length rest < length s
shorter s {rest = rest} k = omega (arith, k.long, ap length k.joined, length-append k.front rest)

-- what was read, and the tokens behind it
abbrev others : ℕ → Read → Option (List Token)
others n o = o >>= λ (t, rest). tokens_within n rest >>= λ ts. some (t ∷ ts)

-- a bound that is large enough does not matter
pub within-enough : (m n : ℕ) (s : Bytes) → length s ≤ m → length s ≤ n → tokens_within m s ≡ tokens_within n s
within-enough zero zero s h k = refl
within-enough zero (suc n) [] h k = refl
within-enough zero (suc n) (x ∷ s) h k = absurd (omega arith)
within-enough (suc m) zero [] h k = refl
within-enough (suc m) zero (x ∷ s) h k = absurd (omega arith)
within-enough (suc m) (suc n) [] h k = refl
within-enough (suc m) (suc n) (x ∷ s) h k = go (is_byte " " x) (λ r. within-enough m n r)
  where
    read : (o : Read) → read_token (x ∷ s) ≡ o → ((r : Bytes) → length r ≤ m → length r ≤ n → tokens_within m r ≡ tokens_within n r)
        → others m o ≡ others n o
    read none e more = refl
    read (some p) e more =
        let l = shorter (x ∷ s) (taken (x ∷ s) {t = p.0} {rest = p.1} e) in
        ap (λ (o : Option (List Token)). o >>= λ ts. some (p.0 ∷ ts)) (more p.1 (omega arith) (omega arith))

    go : (b : Bool) → ((r : Bytes) → length r ≤ m → length r ≤ n → tokens_within m r ≡ tokens_within n r)
        → ◌≡◌ {A = Option (List Token)} (elim b as (λ _. Option (List Token)) [ true ↦ tokens_within m s | false ↦ others m (read_token (x ∷ s)) ])
        (elim b as (λ _. Option (List Token)) [ true ↦ tokens_within n s | false ↦ others n (read_token (x ∷ s)) ])
    go true more = more s (omega arith) (omega arith)
    go false more = read (read_token (x ∷ s)) refl more

-- spaces at the front do not matter, and none is left
unspaced-le : (s : Bytes) → length (unspaced s) ≤ length s
unspaced-le s = omega (arith, ap length (unspaced-lead s), length-drop (lead (is_byte " ") s) s)

within-unspaced : (n : ℕ) (s : Bytes) → length s ≤ n → tokens_within n s ≡ tokens_within n (unspaced s)
within-unspaced zero [] h = refl
within-unspaced (suc n) [] h = refl
within-unspaced zero (x ∷ s) h = absurd (omega arith)
within-unspaced (suc n) (x ∷ s) h = go (is_byte " " x) refl (within-unspaced n s (omega arith))
  where
    go : (b : Bool) → is_byte " " x ≡ b → tokens_within n s ≡ tokens_within n (unspaced s)
        → tokens_within (suc n) (x ∷ s) ≡ tokens_within (suc n) (elim b as (λ _. Bytes) [ true ↦ unspaced s | false ↦ x ∷ s ])
    go true e f = let l = unspaced-le s in ap (λ (b : Bool). elim b as (λ _. Option (List Token)) [ true ↦ tokens_within n s | false ↦ others n (read_token (x ∷ s)) ]) e ∙ f ∙ within-enough n (suc n) (unspaced s) (omega arith) (omega arith)
    go false e f = refl

no-space : (s : Bytes) {x : ℕ} {u : Bytes} → unspaced s ≡ x ∷ u → is_byte " " x ≡ false
no-space [] {x} {u} e = let z : ◌≡◌ {A = ℕ} 0 1 = cc in absurd (omega arith)
no-space (y ∷ s) {x} {u} e = go (is_byte " " y) refl e (no-space s {x = x} {u = u})
  where
    go : (b : Bool) → is_byte " " y ≡ b → elim b as (λ _. Bytes) [ true ↦ unspaced s | false ↦ y ∷ s ] ≡ x ∷ u → (unspaced s ≡ x ∷ u → is_byte " " x ≡ false) → is_byte " " x ≡ false
    go true p f more = more f
    go false p f more = let z : y ≡ x = cc in ap (is_byte " ") (sym z) ∙ p

-- the first token and the others
pub within-nil : (n : ℕ) → tokens_within n [] ≡ some []
within-nil zero = refl
within-nil (suc n) = refl

within-cons : (n x : ℕ) (u : Bytes) → is_byte " " x ≡ false → tokens_within (suc n) (x ∷ u) ≡ others n (read_token (x ∷ u))
within-cons n x u e = ap (λ (b : Bool). elim b as (λ _. Option (List Token)) [ true ↦ tokens_within n u | false ↦ others n (read_token (x ∷ u)) ]) e

within_none : (n x : ℕ) (u : Bytes) → is_byte " " x ≡ false → read_token (x ∷ u) ≡ none → length (x ∷ u) ≤ n → tokens_within n (x ∷ u) ≡ none
within_none zero x u e f h = absurd (omega arith)
within_none (suc n) x u e f h = within-cons n x u e ∙ ap (others n) f

within-some : (n m x : ℕ) (u : Bytes) {t : Token} {rest : Bytes} → is_byte " " x ≡ false → read_token (x ∷ u) ≡ some (t, rest)
    → length (x ∷ u) ≤ n → length rest ≤ m → tokens_within n (x ∷ u) ≡ (tokens_within m rest >>= λ ts. some (t ∷ ts))
within-some zero m x u e f h k = absurd (omega arith)
within-some (suc n) m x u {t} {rest} e f h k =
    let l = shorter (x ∷ u) (taken (x ∷ u) f) in
    within-cons n x u e ∙ ap (others n) f ∙ ap (λ (o : Option (List Token)). o >>= λ ts. some (t ∷ ts)) (within-enough n m rest (omega arith) k)

-- how much code there is when a place is reached: three bytes for each byte passed, and two more where no word begins there
pub record CodeRoom (s : Bytes) (at len : ℕ) : Type 0 where
  pub few : len ≤ 3 * at + 2
  pub fewer : 0 < lead word_byte (drop at s) → len ≤ 3 * at

-- a token that is read at a place
pub record ReadAt (s : Bytes) (at : ℕ) (t : Token) (next : ℕ) : Type 0 where
  pub well : is_token t ≡ true
  pub code : token_at s at ≡ Some (placed (Some (code_of t)) next)
  pub after : at < next
  pub within : next ≤ length s
  pub text : (u : Bytes) → t ≡ str u → (length u + 1 ≤ next) × (take (length u) (drop (next - 1 - length u) s) ≡ u)
  pub room : (len : ℕ) → CodeRoom s at len → CodeRoom s next (len + size t)
  pub tokens : (n m : ℕ) → length (drop at s) ≤ n → length (drop next s) ≤ m → tokens_within n (drop at s) ≡ (tokens_within m (drop next s) >>= λ ts. some (t ∷ ts))

-- what the token at a place says of the tokens from there on
pub data Seen (s : Bytes) (at : ℕ) : Type 0 where
  ended : token_at s at ≡ end_at (length s) → ((n : ℕ) → length (drop at s) ≤ n → tokens_within n (drop at s) ≡ some []) → Seen s at
  refused : token_at s at ≡ None → ((n : ℕ) → length (drop at s) ≤ n → tokens_within n (drop at s) ≡ none) → Seen s at
  read : (t : Token) (next : ℕ) → ReadAt s at t next → Seen s at

-- where the token ends that is read behind the spaces
module _ (s : Bytes) (at x : ℕ) (u : Bytes) (e : unspaced (drop at s) ≡ x ∷ u) (t : Token) (rest : Bytes) (k : Taken (x ∷ u) t rest) where
  spaces : ℕ
  spaces = lead (is_byte " ") (drop at s)

  start : ℕ
  start = at + spaces

  next : ℕ
  next = start + length k.front

  from_start : x ∷ u ≡ drop start s
  unfolding start spaces
  from_start = sym e ∙ unspaced-lead (drop at s) ∙ drop-drop (lead (is_byte " ") (drop at s)) at s

  from_next : rest ≡ drop next s
  unfolding next
  from_next =
      sym (drop_at k.front rest (length k.front) refl) ∙ ap (drop (length k.front)) (sym k.joined ∙ from_start) ∙ drop-drop (length k.front) start s

  places : (at < next) × (next ≤ length s) × (length s - length rest ≡ next)
  unfolding next start
  places =
      let i = ap length from_start in
      let j = length-drop (at + spaces) s in
      let m = ap length k.joined ∙ length-append k.front rest in
      let l = k.long in
      (omega arith, omega arith, omega arith)

  -- the text of a str stands before its last quote
  text-there : (v : Bytes) → t ≡ str v → (length v + 1 ≤ next) × (take (length v) (drop (next - 1 - length v) s) ≡ v)
  unfolding next
  text-there v f =
      let g : k.front ≡ 34 ∷ (v ++ (34 ∷ [])) = k.text v f in
      let l : length k.front ≡ suc (length v + 1) = ap length g ∙ ap suc (length-append v (34 ∷ [])) in
      let p : start + length k.front - 1 - length v ≡ start + 1 = omega arith in
      let j : x ∷ u ≡ 34 ∷ (v ++ (34 ∷ []) ++ rest) = k.joined ∙ ap (λ (q : Bytes). q ++ rest) g in
      let d : drop (start + 1) s ≡ v ++ (34 ∷ []) ++ rest = sym (drop-drop 1 start s) ∙ ap (drop 1) (sym from_start ∙ j) in
      let a : v ++ (34 ∷ []) ++ rest ≡ v ++ (34 ∷ rest) = append_assoc v (34 ∷ []) rest in
      (omega arith, ap (λ (q : ℕ). take (length v) (drop q s)) p ∙ ap (take (length v)) (d ∙ a) ∙ take_at v (34 ∷ rest) (length v) refl)

  room-there : (len : ℕ) → CodeRoom s at len → CodeRoom s next (len + size t)
  unfolding next start
  room-there len r = go k.cost
    where
      begun : 0 < lead word_byte (x ∷ u) → Dec (0 < spaces) → len ≤ 3 * (at + spaces)
      begun h (yes l) = let f = r.few in omega arith
      begun h (no l) =
          let z : at + spaces ≡ at = omega arith in
          let f = r.fewer (subst (λ (q : Bytes). 0 < lead word_byte q) (from_start ∙ ap (λ (q : ℕ). drop q s) z) h) in
          omega arith

      go : Cost t (x ∷ u) rest (length k.front) → CodeRoom s (at + spaces + length k.front) (len + size t)
      go (word a b c) =
          let f = begun a (dec_lt 0 spaces) in
          let g : lead word_byte (drop next s) ≡ 0 = ap (lead word_byte) (sym from_next) ∙ b in
          record { few = omega arith; fewer = λ h. absurd (omega arith) }
      go (other c) =
          let f = r.few in
          record { few = omega arith; fewer = λ h. omega arith }

pub seen : (s : Bytes) (at : ℕ) → Seen s at
unfolding token_at token_in
seen s at = go (unspaced (drop at s)) refl
  where
    head : (x : ℕ) (u : Bytes) → unspaced (drop at s) ≡ x ∷ u → (n : ℕ) → length (drop at s) ≤ n → length (x ∷ u) ≤ n
    head x u e n h = omega (arith, ap length e, unspaced-le (drop at s))

    token : (x : ℕ) (u : Bytes) → unspaced (drop at s) ≡ x ∷ u → (o : Read) → read_token (x ∷ u) ≡ o → Seen s at
    token x u e none f =
        refused (ap (token_in (length s)) e ∙ ap (coded_read (length s)) f)
        (λ n h. within-unspaced n (drop at s) h ∙ ap (tokens_within n) e ∙ within_none n x u (no-space (drop at s) e) f (head x u e n h))
    token x u e (some p) f =
        let k = taken (x ∷ u) {t = p.0} {rest = p.1} f in
        let (a, b, c) = places s at x u e p.0 p.1 k in
        let d = from_next s at x u e p.0 p.1 k in
        read p.0 (next s at x u e p.0 p.1 k)
        (record {
          well = k.well;
          code = ap (token_in (length s)) e ∙ ap (coded_read (length s)) f ∙ ap (λ (l : ℕ). Some (placed (Some (code_of p.0)) l)) c;
          after = a;
          within = b;
          text = text-there s at x u e p.0 p.1 k;
          room = room-there s at x u e p.0 p.1 k;
          tokens = λ n m h i. within-unspaced n (drop at s) h ∙ ap (tokens_within n) e
              ∙ within-some n m x u (no-space (drop at s) e) f (head x u e n h) (subst (λ (r : Bytes). length r ≤ m) (sym d) i)
              ∙ ap (λ (r : Bytes). tokens_within m r >>= λ ts. some (p.0 ∷ ts)) d;
        })

    go : (u : Bytes) → unspaced (drop at s) ≡ u → Seen s at
    go [] e = ended (ap (token_in (length s)) e) (λ n h. within-unspaced n (drop at s) h ∙ ap (tokens_within n) e ∙ within-nil n)
    go (x ∷ u) e = token x u e (read_token (x ∷ u)) refl

-- the tokens of a policy are in order
within-well : (n : ℕ) (s : Bytes) (ts : List Token) → tokens_within n s ≡ some ts → all_of is_token ts ≡ true
within-well zero s ts e = let z : [] ≡ ts = (condition {t = is_empty s} e).1 in ap (all_of is_token) (sym z)
within-well (suc n) [] ts e = ap (all_of is_token) (sym (some-injective _ _ e))
within-well (suc n) (x ∷ s) ts e = go (is_byte " " x) e (within-well n)
  where
    go : (b : Bool) → elim b as (λ _. Option (List Token)) [ true ↦ tokens_within n s | false ↦ others n (read_token (x ∷ s)) ] ≡ some ts
        → ((r : Bytes) (us : List Token) → tokens_within n r ≡ some us → all_of is_token us ≡ true) → all_of is_token ts ≡ true
    go true f more = more s ts f
    go false f more =
        bound {o = read_token (x ∷ s)} f λ p g h. bound {o = tokens_within n p.1} h λ us i j.
        ap (all_of is_token) (sym (some-injective _ _ j)) ∙ all_cons is_token p.0 us (taken (x ∷ s) {t = p.0} {rest = p.1} g).well (more p.1 us i)

pub tokens-well : (s : Bytes) (ts : List Token) → tokens_of s ≡ some ts → all_of is_token ts ≡ true
unfolding tokens_of
tokens-well s ts e = within-well (length s) s ts e
