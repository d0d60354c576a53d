-- Tokens are read exactly from the bytes that spell them.
use Prim.Native.Nat.{ℕ, zero, suc, ◌≤◌}
use mathlib.Core.Path.{◌≡◌, refl, sym, ap, ◌∙◌}
use mathlib.Core.Logic.{◌↔◌}
use mathlib.Core.Bool.{Bool, true, false, ◌&&◌, ◌||◌, not}
use mathlib.Core.List.{List, [], ◌∷◌, ◌++◌}
use mathlib.Core.Option.{some, some-injective}
use native.Mathlib.Omega.{arith}
use borrow.Author.Tests.{eqb-true}
use lib.ListN.{length, length-append}
use Rattle.model.specs.Notation.{if◌then◌otherwise◌, ◌>>=◌, is_empty, all_of, each}
use Rattle.model.specs.Bytes.{Bytes, bytes, newline, is_byte}
use Rattle.model.specs.Tokens.{Token, is_token, spelling, read_token, tokens_within, tokens_of, is_word, may_touch, begins_with_space, may_follow, Spells}
use Rattle.model.proofs.Options.{bound, condition}
use Rattle.model.proofs.Lists.{or_right, all-parts, all_cons, all_append, empty}
use Rattle.model.proofs.Cuts.{isnt, lacks}
use Rattle.model.proofs.Spelling.{FirstByte, front_of, angle, whole, spelling-lacks, token-sound, token-complete}

-- what may follow a token is what leaves it whole
space-whole : (t : Token) (s : Bytes) → whole t (bytes " " ++ s) ≡ true
space-whole t s = go (is_word t) (angle t)
  where
    go : (a b : Bool) → (not (a && false) && not (b && false)) ≡ true
    go true true = refl
    go true false = refl
    go false true = refl
    go false false = refl

touch-whole : (t u : Token) (s : Bytes) → FirstByte u → whole t (spelling u ++ s) ≡ may_touch t u
touch-whole t u s f = ap (λ (w : Bytes). whole t (w ++ s)) f.joined ∙ rw (f.in-word, f.equals)

follow-whole : (t : Token) {ts : List Token} {s : Bytes} → Spells ts s → all_of is_token ts ≡ true → may_follow t ts s ≡ whole t s
follow-whole t Spells.no-token h = refl
follow-whole t (Spells.a-space {ts = []} {s = s} d) h = sym (space-whole t s)
follow-whole t (Spells.a-space {ts = u ∷ us} {s = s} d) h = or_right (may_touch t u) true refl ∙ sym (space-whole t s)
follow-whole t (Spells.a-token u {ts = us} {s = s} d k) h =
    let f = front_of u (all-parts is_token u us h).0 in
    touching f ∙ sym (touch-whole t u s f)
  where
    touching : FirstByte u → (may_touch t u || begins_with_space (spelling u ++ s)) ≡ may_touch t u
    touching f = ap (λ (w : Bytes). may_touch t u || begins_with_space (w ++ s)) f.joined ∙ rw f.no-space (go (may_touch t u))
      where
        go : (b : Bool) → (b || false) ≡ b
        go true = refl
        go false = refl

-- what is read is spelt, and its tokens are well formed
within-sound : (n : ℕ) (s : Bytes) (ts : List Token) → tokens_within n s ≡ some ts → (all_of is_token ts ≡ true) × Spells ts s
within-sound zero s ts e = let (h, z) = condition {t = is_empty s} {a = []} e in rw (← z, empty s h) (refl, Spells.no-token)
within-sound (suc n) [] ts e = let z = some-injective _ _ e in rw (← z) (refl, Spells.no-token)
within-sound (suc n) (x ∷ s) ts e = go (is_byte " " x) refl (λ r us. within-sound n r us) e
  where
    go : (b : Bool) → is_byte " " x ≡ b → ((r : Bytes) (us : List Token) → tokens_within n r ≡ some us → (all_of is_token us ≡ true) × Spells us r)
        → (if b then tokens_within n s otherwise (read_token (x ∷ s) >>= λ (t, rest). tokens_within n rest >>= λ us. some (t ∷ us))) ≡ some ts
        → (all_of is_token ts ≡ true) × Spells ts (x ∷ s)
    go true q more f = let (h, d) = more s ts f in (h, rw (eqb-true x 32 q) (Spells.a-space d))
    go false q more f =
        bound {o = read_token (x ∷ s)} f λ c p g.
        bound {o = tokens_within n c.1} g λ us r k.
        let z : c.0 ∷ us ≡ ts = some-injective _ _ k in
        let (h, j, w) = token-sound (x ∷ s) c.0 c.1 p in
        let (i, d) = more c.1 us r in
        rw (← z, j) (all_cons is_token c.0 us h i, Spells.a-token c.0 d (follow-whole c.0 d i ∙ w))

-- what is spelt with well-formed tokens is read
within-complete : {ts : List Token} {s : Bytes} → Spells ts s → all_of is_token ts ≡ true → (n : ℕ) → length s ≤ n → tokens_within n s ≡ some ts
within-complete Spells.no-token h zero l = refl
within-complete Spells.no-token h (suc n) l = refl
within-complete (Spells.a-space d) h zero l = absurd (omega arith)
within-complete (Spells.a-space d) h (suc n) l = within-complete d h n (omega arith)
within-complete (Spells.a-token t {ts = ts} {s = s} d k) h n l =
    let (a, b) = all-parts is_token t ts h in
    read (front_of t a) (token-complete t s a (sym (follow-whole t d b) ∙ k)) n l (λ m i. within-complete d b m i)
  where
    step : (x : ℕ) (w : Bytes) → is_byte " " x ≡ false → read_token (x ∷ w ++ s) ≡ some (t, s) → (n : ℕ) → length (x ∷ w ++ s) ≤ n
        → ((m : ℕ) → length s ≤ m → tokens_within m s ≡ some ts) → tokens_within n (x ∷ w ++ s) ≡ some (t ∷ ts)
    step x w o e zero l more = absurd (omega arith)
    step x w o e (suc n) l more = rw (o, e, more n (omega (arith, length-append w s)))

    read : FirstByte t → read_token (spelling t ++ s) ≡ some (t, s) → (n : ℕ) → length (spelling t ++ s) ≤ n
        → ((m : ℕ) → length s ≤ m → tokens_within m s ≡ some ts) → tokens_within n (spelling t ++ s) ≡ some (t ∷ ts)
    read f = rw f.joined (step f.first f.more f.no-space)

-- reading bytes gives tokens exactly when they are well formed and the bytes spell them
pub tokens-exact : (s : Bytes) (ts : List Token) → (tokens_of s ≡ some ts) ↔ ((all_of is_token ts ≡ true) × Spells ts s)
unfolding tokens_of
tokens-exact s ts = (within-sound (length s) s ts, λ (h, d). within-complete d h (length s) (omega arith))

pub tokens-formed : (s : Bytes) (ts : List Token) → tokens_of s ≡ some ts → all_of is_token ts ≡ true
tokens-formed s ts e = ((tokens-exact s ts).0 e).0

-- bytes spell at most one list of well-formed tokens
pub one-reading : (s : Bytes) (ts us : List Token) → all_of is_token ts ≡ true → Spells ts s → all_of is_token us ≡ true → Spells us s → ts ≡ us
one-reading s ts us h d k e = some-injective ts us (sym ((tokens-exact s ts).1 (h, d)) ∙ (tokens-exact s us).1 (k, e))

-- a space before each token
pub spaced-spells : (ts : List Token) → Spells ts (each (λ t. bytes " " ++ spelling t) ts)
spaced-spells [] = Spells.no-token
spaced-spells (t ∷ []) = Spells.a-space (Spells.a-token t Spells.no-token refl)
spaced-spells (t ∷ u ∷ ts) = Spells.a-space (Spells.a-token t (spaced-spells (u ∷ ts)) (or_right (may_touch t u) true refl))

pub spaced-read : (ts : List Token) → all_of is_token ts ≡ true → tokens_of (each (λ t. bytes " " ++ spelling t) ts) ≡ some ts
spaced-read ts h = (tokens-exact (each (λ t. bytes " " ++ spelling t) ts) ts).1 (h, spaced-spells ts)

-- no spelling of well-formed tokens holds byte 10
pub spells-lack : {ts : List Token} {s : Bytes} → Spells ts s → all_of is_token ts ≡ true → lacks newline s ≡ true
spells-lack Spells.no-token h = refl
spells-lack (Spells.a-space {s = s} d) h = all_append (isnt newline) (bytes " ") s refl (spells-lack d h)
spells-lack (Spells.a-token t {ts = ts} {s = s} d k) h =
    let (a, b) = all-parts is_token t ts h in
    all_append (isnt newline) (spelling t) s (spelling-lacks t a) (spells-lack d b)
