-- The canonical spelling of a policy's tokens: it spells them, and none is shorter. Assumes nothing.
use Prim.Native.Nat.{◌+◌, ◌≤◌}
use mathlib.Core.Path.{◌≡◌, refl, sym, ap, ◌∙◌}
use mathlib.Core.Bool.{Bool, true, false, ◌&&◌, ◌||◌, not}
use mathlib.Core.List.{List, [], ◌∷◌, ◌++◌}
use mathlib.Core.Option.{some}
use native.Mathlib.Omega.{arith}
use lib.ListN.{length, length-append}
use Rattle.model.specs.Notation.{if◌then◌otherwise◌, is_none, all_of}
use Rattle.model.specs.Bytes.{Bytes, bytes}
use Rattle.model.specs.Atoms.{Atom}
use Rattle.model.specs.Tokens.{Token, Operator, Mark, is_token, spelling, is_word, is_operator, as_operator, as_constant, may_follow, begins_with_space, Spells, gap, spelled_behind, spelled}
use Rattle.model.specs.Grammar.{Policy, Part, Items, last, next, IsVar, a-constant, a-set, an-attribute, Obeys, a-truth, a-lone, in-parentheses, plain, negation, comparison, one-term, joined-by-and, one-conjunction, joined-by-or, read_policy}
use Rattle.model.proofs.WordTables.{false-is-true, none-is-some}
use Rattle.model.proofs.Options.{parts, both}
use Rattle.model.proofs.Lists.{all-parts, or_left}
use Rattle.model.proofs.Spelling.{front_of}
use Rattle.model.proofs.Grammar.{reads-exactly}

-- ---- no spelling is shorter

abbrev first_is_word : List Token → Bool
first_is_word [] = false
first_is_word (t ∷ ts) = is_word t

gap-short : (w : Bool) (t : Token) → length (gap w t) ≤ 1
gap-short w t = go (w && is_word t)
  where
    go : (b : Bool) → length (if b then bytes " " otherwise []) ≤ 1
    go true = omega arith
    go false = omega arith

behind-short : (w : Bool) (ts : List Token) → length (spelled_behind w ts) ≤ 1 + length (spelled_behind false ts)
behind-short w [] = omega arith
behind-short w (t ∷ ts) = omega (arith, gap-short w t, length-append (gap w t) (spelling t ++ spelled_behind (is_word t) ts))

no_gap : (w : Bool) (t : Token) → ((w && is_word t) ≡ true → ⊥) → length (gap w t) ≡ 0
no_gap w t n = go (w && is_word t) n
  where
    go : (b : Bool) → (b ≡ true → ⊥) → length (if b then bytes " " otherwise []) ≡ 0
    go true n = absurd (n refl)
    go false n = refl

needs-space : (t : Token) (ts : List Token) (s : Bytes) → may_follow t ts s ≡ true → is_word t ≡ true → first_is_word ts ≡ true → begins_with_space s ≡ true
needs-space t [] s k w f = false-is-true f
needs-space t (u ∷ us) s k w f = go (is_word t) (is_word u) (begins_with_space s) w f k
  where
    go : (a b c : Bool) → a ≡ true → b ≡ true → ((not (a && b) && not ((is_operator Operator.less t || is_operator Operator.greater t) && is_operator Operator.equal u)) || c) ≡ true → c ≡ true
    go true true c p q r = r
    go true false c p q r = false-is-true q
    go false b c p q r = false-is-true p

pub shortest : {ts : List Token} {s : Bytes} → Spells ts s → all_of is_token ts ≡ true → (w : Bool) → (w ≡ true → first_is_word ts ≡ true → begins_with_space s ≡ true)
    → length (spelled_behind w ts) ≤ length s
shortest Spells.no-token h w f = omega arith
shortest (Spells.a-space {ts = ts} {s = s} d) h w f = omega (arith, behind-short w ts, shortest d h false (λ e. false-is-true e))
shortest (Spells.a-token t {ts = ts} {s = s} d k) h w f =
    let (a, b) = all-parts is_token t ts h in
    let front = front_of t a in
    let off : (w && is_word t) ≡ true → ⊥ = λ e.
    let (p, q) = parts w (is_word t) e in
    let z : begins_with_space (spelling t ++ s) ≡ false = ap (λ (x : Bytes). begins_with_space (x ++ s)) front.joined ∙ front.no-space in
    false-is-true (sym z ∙ f p q) in
    omega (
      arith,
      no_gap w t off,
      length-append (gap w t) (spelling t ++ spelled_behind (is_word t) ts),
      length-append (spelling t) (spelled_behind (is_word t) ts),
      length-append (spelling t) s,
      shortest d b (is_word t) (λ p q. needs-space t ts s k p q),
    )

pub spelled-shortest : {ts : List Token} {s : Bytes} → Spells ts s → all_of is_token ts ≡ true → length (spelled ts) ≤ length s
unfolding spelled
spelled-shortest d h = shortest d h false (λ e. false-is-true e)

-- ---- in a policy no operator stands right behind another

abbrev is_op : Token → Bool
is_op t = not (is_none (as_operator t))

abbrev apart_behind : Bool → List Token → Bool
apart_behind o [] = true
apart_behind o (t ∷ ts) = not (o && is_op t) && apart_behind (is_op t) ts

abbrev last_op : Bool → List Token → Bool
last_op o [] = o
last_op o (t ∷ ts) = last_op (is_op t) ts

abbrev Fine : List Token → Type 0
Fine ts = (o : Bool) → (apart_behind o ts ≡ true) × (last_op o ts ≡ false)

apart-append : (o : Bool) (ts us : List Token) → apart_behind o ts ≡ true → apart_behind (last_op o ts) us ≡ true → apart_behind o (ts ++ us) ≡ true
apart-append o [] us p q = q
apart-append o (t ∷ ts) us p q = let (a, b) = parts (not (o && is_op t)) (apart_behind (is_op t) ts) p in both a (apart-append (is_op t) ts us b q)

last-append : (o : Bool) (ts us : List Token) → last_op o (ts ++ us) ≡ last_op (last_op o ts) us
last-append o [] us = refl
last-append o (t ∷ ts) us = last-append (is_op t) ts us

fine-around : (ts us : List Token) (m : Token) → Fine ts → Fine us → Fine (ts ++ m ∷ us)
fine-around ts us m f g o = (
  apart-append o ts (m ∷ us) (f o).0 (ap (λ (b : Bool). apart_behind b (m ∷ us)) (f o).1 ∙ (g (is_op m)).0),
  last-append o ts (m ∷ us) ∙ (g (is_op m)).1,
)

-- a token that is no operator stands alone, and at the end
no-op : (t : Token) → is_op t ≡ false → Fine (t ∷ [])
no-op t e o = (go o (is_op t) e, e)
  where
    go : (a b : Bool) → b ≡ false → (not (a && b) && true) ≡ true
    go true true e = false-is-true (sym e)
    go true false e = refl
    go false b e = refl

fine-then : (t : Token) (ts : List Token) → is_op t ≡ false → Fine ts → Fine (t ∷ ts)
fine-then t ts e f o = (both (go o (is_op t) e) (f (is_op t)).0, (f (is_op t)).1)
  where
    go : (a b : Bool) → b ≡ false → not (a && b) ≡ true
    go true true e = false-is-true (sym e)
    go true false e = refl
    go false b e = refl

fine-closed : (ts : List Token) (m : Token) → is_op m ≡ false → Fine ts → Fine (ts ++ m ∷ [])
fine-closed ts m e f o = (
  apart-append o ts (m ∷ []) (f o).0 (ap (λ (b : Bool). apart_behind b (m ∷ [])) (f o).1),
  last-append o ts (m ∷ []) ∙ e,
)

constant-no-op : (t : Token) {a : Atom} → as_constant t ≡ some a → is_op t ≡ false
constant-no-op (Token.name s n) e = refl
constant-no-op (Token.int n) e = refl
constant-no-op (Token.str s) e = refl
constant-no-op (Token.truth t) e = refl
constant-no-op (Token.operator o) e = none-is-some e
constant-no-op (Token.mark m) e = refl

items-fine : {ts : List Token} {l : List Atom} → Items ts l → Fine ts
items-fine (last {t = t} e) = no-op t (constant-no-op t e)
items-fine (next {t = t} {ts = ts} e i) = fine-then t (Token.mark Mark.comma ∷ ts) (constant-no-op t e) (fine-then (Token.mark Mark.comma) ts refl (items-fine i))

var-fine : {ts : List Token} {v : Rattle.model.specs.Grammar.Var} → IsVar ts v → Fine ts
var-fine (a-constant {t = t} e) = no-op t (constant-no-op t e)
var-fine (a-set {ts = ts} i o) = fine-then (Token.mark Mark.lbrace) (ts ++ Token.mark Mark.rbrace ∷ []) refl (fine-closed ts (Token.mark Mark.rbrace) refl (items-fine i))
var-fine (an-attribute s n) = no-op (Token.name s n) refl

obeys-fine : {part : Part} {ts : List Token} {p : Policy} → Obeys part ts p → Fine ts
obeys-fine (a-truth t) = no-op (Token.truth t) refl
obeys-fine (a-lone s n) = no-op (Token.name s n) refl
obeys-fine (in-parentheses {ts = ts} d) = fine-then (Token.mark Mark.lparen) (ts ++ Token.mark Mark.rparen ∷ []) refl (fine-closed ts (Token.mark Mark.rparen) refl (obeys-fine d))
obeys-fine (plain d) = obeys-fine d
obeys-fine (negation {ts = ts} d) = fine-then (Token.mark Mark.NOT) ts refl (obeys-fine d)
obeys-fine (comparison {ts = ts} {us = us} o v w) = fine-around ts us (Token.operator o) (var-fine v) (var-fine w)
obeys-fine (one-term d) = obeys-fine d
obeys-fine (joined-by-and {ts = ts} {us = us} d e) = fine-around ts us (Token.mark Mark.AND) (obeys-fine d) (obeys-fine e)
obeys-fine (one-conjunction d) = obeys-fine d
obeys-fine (joined-by-or {ts = ts} {us = us} d e) = fine-around ts us (Token.mark Mark.OR) (obeys-fine d) (obeys-fine e)

-- ---- the canonical spelling spells

no-equal : (u : Token) → is_op u ≡ false → is_operator Operator.equal u ≡ false
no-equal (Token.name s n) e = refl
no-equal (Token.int n) e = refl
no-equal (Token.str s) e = refl
no-equal (Token.truth t) e = refl
no-equal (Token.operator o) e = false-is-true (sym e)
no-equal (Token.mark m) e = refl

op-angle : (t : Token) → is_op t ≡ false → (is_operator Operator.less t || is_operator Operator.greater t) ≡ false
op-angle (Token.name s n) e = refl
op-angle (Token.int n) e = refl
op-angle (Token.str s) e = refl
op-angle (Token.truth t) e = refl
op-angle (Token.operator o) e = false-is-true (sym e)
op-angle (Token.mark m) e = refl

may-follow : (t : Token) (ts : List Token) → apart_behind (is_op t) ts ≡ true → may_follow t ts (spelled_behind (is_word t) ts) ≡ true
may-follow t [] h = refl
may-follow t (u ∷ us) h =
    let (a, b) = parts (not (is_op t && is_op u)) (apart_behind (is_op u) us) h in
    go (is_word t && is_word u) (is_operator Operator.less t || is_operator Operator.greater t) (is_operator Operator.equal u) (angles (is_op t) refl (is_op u) refl a)
  where
    angles : (x : Bool) → is_op t ≡ x → (y : Bool) → is_op u ≡ y → not (x && y) ≡ true
        → not ((is_operator Operator.less t || is_operator Operator.greater t) && is_operator Operator.equal u) ≡ true
    angles true p true q r = false-is-true r
    angles true p false q r = rw (no-equal u q) (flat (is_operator Operator.less t || is_operator Operator.greater t))
      where
        flat : (z : Bool) → not (z && false) ≡ true
        flat true = refl
        flat false = refl
    angles false p y q r = rw (op-angle t p)

    go : (w x y : Bool) → not (x && y) ≡ true
        → ((not w && not (x && y)) || begins_with_space ((if w then bytes " " otherwise []) ++ (spelling u ++ spelled_behind (is_word u) us))) ≡ true
    go true x y r = refl
    go false x y r = or_left (not (x && y)) _ r

weaken : (o : Bool) (vs : List Token) → apart_behind o vs ≡ true → apart_behind false vs ≡ true
weaken o [] k = refl
weaken o (v ∷ vs) k = (parts (not (o && is_op v)) (apart_behind (is_op v) vs) k).1

spells-behind : (w : Bool) (ts : List Token) → apart_behind false ts ≡ true → Spells ts (spelled_behind w ts)
spells-behind w [] h = Spells.no-token
spells-behind w (t ∷ ts) h =
    let k = (parts (not (false && is_op t)) (apart_behind (is_op t) ts) h).1 in
    go (w && is_word t) (Spells.a-token t (spells-behind (is_word t) ts (weaken (is_op t) ts k)) (may-follow t ts k))
  where
    go : (b : Bool) → Spells (t ∷ ts) (spelling t ++ spelled_behind (is_word t) ts)
        → Spells (t ∷ ts) ((if b then bytes " " otherwise []) ++ (spelling t ++ spelled_behind (is_word t) ts))
    go true d = Spells.a-space d
    go false d = d

pub spelled-spells : (ts : List Token) {p : Policy} → read_policy ts ≡ some p → Spells ts (spelled ts)
unfolding spelled
spelled-spells ts {p} e = spells-behind false ts (obeys-fine ((reads-exactly ts p).0 e) false).0
