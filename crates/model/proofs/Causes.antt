-- Causes: what is absent is UNDEF, and how terms joined by one word nest does not change them. Assumes nothing.
use mathlib.Core.Path.{◌≡◌, refl, sym, ap, ap₂, ◌∙◌}
use mathlib.Core.Bool.{Bool, true, false, ◌&&◌, ◌||◌}
use mathlib.Core.List.{List, [], ◌∷◌}
use mathlib.Core.Option.{Option, none, some}
use Rattle.model.specs.Atoms.{Atom}
use Rattle.model.specs.Truth.{Truth, FALSE, UNDEF, TRUE, NOT, ◌AND◌, ◌OR◌, is_undef}
use Rattle.model.specs.Tokens.{Token, Operator}
use Rattle.model.specs.Grammar.{Policy, constant, lone, compare, not, and, or, parenthesised, read_policy}
use Rattle.model.specs.Comparison.{compare_sets, lone_value}
use Rattle.model.specs.Meaning.{Values, values_of, meaning, meaning_of}
use Rattle.model.specs.Causes.{lacks, built, is_absent, absent_of}
use Rattle.model.proofs.WordTables.{false-is-true}
use Rattle.model.proofs.Options.{parts}

pub undef-is : (t : Truth) → is_undef t ≡ true → t ≡ UNDEF
undef-is FALSE e = false-is-true e
undef-is UNDEF e = refl
undef-is TRUE e = false-is-true e

-- ---- what is absent is UNDEF

-- a says of a part of the value t whether it is UNDEF and absent
abbrev pub OnlyUndef : Truth → Bool → Type 0
OnlyUndef t a = a ≡ true → t ≡ UNDEF

pub lone-undef : (l : List Atom) → OnlyUndef (lone_value l) (lacks l)
unfolding lone_value
lone-undef [] e = refl
lone-undef (a ∷ l) e = false-is-true e

pub compare-undef : (o : Operator) (l m : List Atom) → OnlyUndef (compare_sets o l m) (lacks l || lacks m)
unfolding compare_sets
compare-undef o [] m e = refl
compare-undef o (a ∷ l) [] e = refl
compare-undef o (a ∷ l) (b ∷ m) e = false-is-true e

pub built-undef : (t : Truth) (a b : Bool) → OnlyUndef t (built t a b)
built-undef t a b e = undef-is t (parts (is_undef t) (a || b) e).0

pub absent-undef : (read : Values) (p : Policy) → OnlyUndef (meaning read p) (is_absent read p)
absent-undef read (constant t) e = false-is-true e
absent-undef read (lone s n) e = lone-undef (read s n) e
absent-undef read (compare o v w) e = compare-undef o (values_of read v) (values_of read w) e
absent-undef read (not p) e = ap NOT (absent-undef read p e)
absent-undef read (and p q) e = built-undef (meaning read p AND meaning read q) (is_absent read p) (is_absent read q) e
absent-undef read (or p q) e = built-undef (meaning read p OR meaning read q) (is_absent read p) (is_absent read q) e
absent-undef read (parenthesised p) e = absent-undef read p e

-- the same of a rule
pub absent-of-undef : (read : Values) (ts : List Token) → OnlyUndef (meaning_of read ts) (absent_of read ts)
unfolding meaning_of absent_of
absent-of-undef read ts = go (read_policy ts)
  where
    go : (o : Option Policy) → OnlyUndef (elim o [ some p ↦ meaning read p | none ↦ UNDEF ]) (elim o [ some p ↦ is_absent read p | none ↦ false ])
    go none e = refl
    go (some p) e = absent-undef read p e

-- ---- nesting

or-associates : (a b c : Bool) → ((a || b) || c) ≡ (a || (b || c))
or-associates true b c = refl
or-associates false b c = refl

-- what is TRUE or FALSE is not absent
pub true-not : (a : Bool) → OnlyUndef TRUE a → a ≡ false
true-not true f = false-is-true (ap is_undef (f refl))
true-not false f = refl

pub false-not : (a : Bool) → OnlyUndef FALSE a → a ≡ false
false-not true f = false-is-true (ap is_undef (f refl))
false-not false f = refl

module _ (a b c : Bool) where
  pub AND-causes : (t u v : Truth) → OnlyUndef t a → OnlyUndef u b → OnlyUndef v c
      → built ((t AND u) AND v) (built (t AND u) a b) c ≡ built (t AND (u AND v)) a (built (u AND v) b c)
  AND-causes FALSE u v f g h = refl
  AND-causes UNDEF FALSE v f g h = refl
  AND-causes UNDEF UNDEF FALSE f g h = refl
  AND-causes UNDEF UNDEF UNDEF f g h = or-associates a b c
  AND-causes UNDEF UNDEF TRUE f g h = or-associates a b c
  AND-causes UNDEF TRUE FALSE f g h = refl
  AND-causes UNDEF TRUE UNDEF f g h = or-associates a b c
  AND-causes UNDEF TRUE TRUE f g h = rw (true-not b g, true-not c h) (or-associates a false false)
  AND-causes TRUE FALSE v f g h = refl
  AND-causes TRUE UNDEF FALSE f g h = refl
  AND-causes TRUE UNDEF UNDEF f g h = or-associates a b c
  AND-causes TRUE UNDEF TRUE f g h = or-associates a b c
  AND-causes TRUE TRUE FALSE f g h = refl
  AND-causes TRUE TRUE UNDEF f g h = rw (true-not a f, true-not b g) refl
  AND-causes TRUE TRUE TRUE f g h = refl

-- "OR is its dual"
dual : (t u : Truth) → NOT (t OR u) ≡ NOT t AND NOT u
dual TRUE u = refl
dual UNDEF TRUE = refl
dual UNDEF UNDEF = refl
dual UNDEF FALSE = refl
dual FALSE u = refl

undef-not : (t : Truth) → is_undef (NOT t) ≡ is_undef t
undef-not FALSE = refl
undef-not UNDEF = refl
undef-not TRUE = refl

-- so what is built by OR has the cause of what AND builds of the negations
dual-built : (t u : Truth) (a b : Bool) → built (t OR u) a b ≡ built (NOT t AND NOT u) a b
dual-built t u a b = ap (λ (x : Bool). x && (a || b)) (sym (undef-not (t OR u)) ∙ ap is_undef (dual t u))

pub OR-causes : (a b c : Bool) (t u v : Truth) → OnlyUndef t a → OnlyUndef u b → OnlyUndef v c
    → built ((t OR u) OR v) (built (t OR u) a b) c ≡ built (t OR (u OR v)) a (built (u OR v) b c)
OR-causes a b c t u v f g h =
    dual-built (t OR u) v (built (t OR u) a b) c
    ∙ ap₂ (λ (x : Truth) (y : Bool). built (x AND NOT v) y c) (dual t u) (dual-built t u a b)
    ∙ AND-causes a b c (NOT t) (NOT u) (NOT v) (λ e. ap NOT (f e)) (λ e. ap NOT (g e)) (λ e. ap NOT (h e))
    ∙ sym (dual-built t (u OR v) a (built (u OR v) b c)
    ∙ ap₂ (λ (x : Truth) (y : Bool). built (NOT t AND x) a y) (dual u v) (dual-built u v b c))

module _ (read : Values) (p q r : Policy) where
  pub and-nests : is_absent read (and (and p q) r) ≡ is_absent read (and p (and q r))
  and-nests =
      AND-causes (is_absent read p) (is_absent read q) (is_absent read r) (meaning read p) (meaning read q) (meaning read r)
      (absent-undef read p) (absent-undef read q) (absent-undef read r)

  pub or-nests : is_absent read (or (or p q) r) ≡ is_absent read (or p (or q r))
  or-nests =
      OR-causes (is_absent read p) (is_absent read q) (is_absent read r) (meaning read p) (meaning read q) (meaning read r)
      (absent-undef read p) (absent-undef read q) (absent-undef read r)
