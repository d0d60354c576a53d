-- What the kind of a token tells of it.
use Prim.Native.Nat.{ℕ, ◌≤◌, ◌<◌}
use mathlib.Core.Path.{◌≡◌, refl, sym, ap, ◌∙◌}
use mathlib.Core.List.{List, [], ◌∷◌}
use mathlib.Core.Option.{Option, none, some, some-injective}
use native.Mathlib.Omega.{arith}
use Rattle.model.specs.Bytes.{Bytes}
use Rattle.model.specs.Attributes.{Source}
use Rattle.model.specs.Truth.{Truth, FALSE, UNDEF, TRUE}
use Rattle.model.specs.Tokens.{Token, name, int, str, truth, operator, mark, Operator, Mark, equal, unequal, less, at_most, greater, at_least, IN, SUBSET, AND, OR, NOT, lparen, rparen, lbrace, rbrace, comma}
use Rattle.model.proofs.WordTables.{none-is-some}
use Rattle.codes.specs.Codes.{kind_of, truth_code, operator_code, mark_code, end_code, bad_code}
use Rattle.codes.proofs.Codes.{with_code}

-- where the kinds of each constructor lie
pub truth-range : (t : Truth) → (13 ≤ truth_code t) × (truth_code t ≤ 15)
truth-range FALSE = (omega arith, omega arith)
truth-range UNDEF = (omega arith, omega arith)
truth-range TRUE = (omega arith, omega arith)

pub operator-range : (o : Operator) → (16 ≤ operator_code o) × (operator_code o ≤ 23)
operator-range equal = (omega arith, omega arith)
operator-range unequal = (omega arith, omega arith)
operator-range less = (omega arith, omega arith)
operator-range at_most = (omega arith, omega arith)
operator-range greater = (omega arith, omega arith)
operator-range at_least = (omega arith, omega arith)
operator-range IN = (omega arith, omega arith)
operator-range SUBSET = (omega arith, omega arith)

pub mark-range : (m : Mark) → (5 ≤ mark_code m) × (mark_code m ≤ 12)
mark-range AND = (omega arith, omega arith)
mark-range OR = (omega arith, omega arith)
mark-range NOT = (omega arith, omega arith)
mark-range lparen = (omega arith, omega arith)
mark-range rparen = (omega arith, omega arith)
mark-range lbrace = (omega arith, omega arith)
mark-range rbrace = (omega arith, omega arith)
mark-range comma = (omega arith, omega arith)

-- the kind of a token is neither that of the end nor that of no token
pub kind-range : (t : Token) → (end_code < kind_of t) × (kind_of t < bad_code)
kind-range (name s n) = (omega arith, omega arith)
kind-range (int n) = (omega arith, omega arith)
kind-range (str s) = (omega arith, omega arith)
kind-range (truth t) = let (a, b) = truth-range t in (omega arith, omega arith)
kind-range (operator o) = let (a, b) = operator-range o in (omega arith, omega arith)
kind-range (mark m) = let (a, b) = mark-range m in (omega arith, omega arith)

-- the tokens that their kinds alone tell
fixed : List Token
fixed =
    mark lparen ∷ mark rparen ∷ mark lbrace ∷ mark rbrace ∷ mark comma ∷ mark AND ∷ mark OR ∷ mark NOT
    ∷ truth FALSE ∷ truth UNDEF ∷ truth TRUE
    ∷ operator equal ∷ operator IN ∷ operator unequal ∷ operator SUBSET ∷ operator less ∷ operator at_most ∷ operator greater ∷ operator at_least ∷ []

abbrev pub by_kind : Token → Option Token
by_kind (name s n) = none
by_kind (int n) = none
by_kind (str s) = none
by_kind (truth t) = some (truth t)
by_kind (operator o) = some (operator o)
by_kind (mark m) = some (mark m)

reads : (t : Token) → with_code kind_of fixed (kind_of t) ≡ by_kind t
unfolding fixed
reads (name s n) = refl
reads (int n) = refl
reads (str s) = refl
reads (truth FALSE) = refl
reads (truth UNDEF) = refl
reads (truth TRUE) = refl
reads (operator equal) = refl
reads (operator unequal) = refl
reads (operator less) = refl
reads (operator at_most) = refl
reads (operator greater) = refl
reads (operator at_least) = refl
reads (operator IN) = refl
reads (operator SUBSET) = refl
reads (mark AND) = refl
reads (mark OR) = refl
reads (mark NOT) = refl
reads (mark lparen) = refl
reads (mark rparen) = refl
reads (mark lbrace) = refl
reads (mark rbrace) = refl
reads (mark comma) = refl

itself : (t : Token) {u : Token} → by_kind t ≡ some u → t ≡ u
itself (name s n) e = none-is-some e
itself (int n) e = none-is-some e
itself (str s) e = none-is-some e
itself (truth t) e = some-injective _ _ e
itself (operator o) e = some-injective _ _ e
itself (mark m) e = some-injective _ _ e

-- a token of the kind of one that its kind tells
pub same_kind : (t u : Token) → by_kind u ≡ some u → kind_of t ≡ kind_of u → t ≡ u
same_kind t u f e = itself t (sym (reads t) ∙ ap (with_code kind_of fixed) e ∙ reads u ∙ f)

-- kinds, or ranges of kinds, and the tokens that have them
pub int-kind : (t : Token) → kind_of t ≡ 1 → (n : ℕ) × (t ≡ int n)
int-kind (name s n) e = absurd (omega arith)
int-kind (int n) e = (n, refl)
int-kind (str s) e = absurd (omega arith)
int-kind (truth t) e = absurd (omega (arith, truth-range t))
int-kind (operator o) e = absurd (omega (arith, operator-range o))
int-kind (mark m) e = absurd (omega (arith, mark-range m))

pub str-kind : (t : Token) → kind_of t ≡ 2 → (s : Bytes) × (t ≡ str s)
str-kind (name s n) e = absurd (omega arith)
str-kind (int n) e = absurd (omega arith)
str-kind (str s) e = (s, refl)
str-kind (truth t) e = absurd (omega (arith, truth-range t))
str-kind (operator o) e = absurd (omega (arith, operator-range o))
str-kind (mark m) e = absurd (omega (arith, mark-range m))

pub name-kind : (t : Token) → kind_of t ≡ 4 → (s : Source) × (n : Bytes) × (t ≡ name s n)
name-kind (name s n) e = (s, n, refl)
name-kind (int n) e = absurd (omega arith)
name-kind (str s) e = absurd (omega arith)
name-kind (truth t) e = absurd (omega (arith, truth-range t))
name-kind (operator o) e = absurd (omega (arith, operator-range o))
name-kind (mark m) e = absurd (omega (arith, mark-range m))

pub mark-kind : (t : Token) → 5 ≤ kind_of t → kind_of t ≤ 12 → (m : Mark) × (t ≡ mark m)
mark-kind (name s n) a b = absurd (omega arith)
mark-kind (int n) a b = absurd (omega arith)
mark-kind (str s) a b = absurd (omega arith)
mark-kind (truth t) a b = absurd (omega (arith, truth-range t))
mark-kind (operator o) a b = absurd (omega (arith, operator-range o))
mark-kind (mark m) a b = (m, refl)

pub truth-kind : (t : Token) → 13 ≤ kind_of t → kind_of t ≤ 15 → (u : Truth) × (t ≡ truth u)
truth-kind (name s n) a b = absurd (omega arith)
truth-kind (int n) a b = absurd (omega arith)
truth-kind (str s) a b = absurd (omega arith)
truth-kind (truth t) a b = (t, refl)
truth-kind (operator o) a b = absurd (omega (arith, operator-range o))
truth-kind (mark m) a b = absurd (omega (arith, mark-range m))

pub operator-kind : (t : Token) → 16 ≤ kind_of t → (o : Operator) × (t ≡ operator o)
operator-kind (name s n) a = absurd (omega arith)
operator-kind (int n) a = absurd (omega arith)
operator-kind (str s) a = absurd (omega arith)
operator-kind (truth t) a = absurd (omega (arith, truth-range t))
operator-kind (operator o) a = (o, refl)
operator-kind (mark m) a = absurd (omega (arith, mark-range m))

-- 3 is the kind of no token
pub no_kind : (t : Token) → kind_of t ≡ 3 → ⊥
no_kind (name s n) e = omega arith
no_kind (int n) e = omega arith
no_kind (str s) e = omega arith
no_kind (truth t) e = omega (arith, truth-range t)
no_kind (operator o) e = omega (arith, operator-range o)
no_kind (mark m) e = omega (arith, mark-range m)
