-- What partial results and tests say: results that come from steps, choices and conditions.
use mathlib.Core.Path.{◌≡◌, refl, sym, ap, ◌∙◌}
use mathlib.Core.Bool.{Bool, true, false, ◌&&◌, true≢false}
use mathlib.Core.Option.{Option, none, some, some-injective}
use Rattle.model.specs.Notation.{◌>>=◌, ◌or_else◌, ◌is◌, is_none, only_if}
use Rattle.model.proofs.WordTables.{false-is-true, none-is-some}

-- a conjunction and its parts
pub parts : (a b : Bool) → (a && b) ≡ true → (a ≡ true) × (b ≡ true)
parts true b e = (refl, e)
parts false b e = false-is-true e

pub both : {a b : Bool} → a ≡ true → b ≡ true → (a && b) ≡ true
both p q = rw (p, q)

module _ {A B : Type 0} where
  -- two results that are pairs
  pub fields : {a c : A} {b d : B} → ◌≡◌ {A = Option (A × B)} (some (a, b)) (some (c, d)) → (a ≡ c) × (b ≡ d)
  fields e = let p = some-injective _ _ e in (ap (λ x. x.0) p, ap (λ x. x.1) p)

  -- a step that has a result: so has the one before
  pub bound : {C : Type 0} {o : Option A} {f : A → Option B} {b : B} → (o >>= f) ≡ some b → ((a : A) → o ≡ some a → f a ≡ some b → C) → C
  bound {o = none} e k = none-is-some e
  bound {o = some a} e k = k a refl e

module _ {A : Type 0} where
  -- no result, if each would be refused
  pub no_result : (o : Option A) → ((a : A) → o ≡ some a → ⊥) → o ≡ none
  no_result none f = refl
  no_result (some a) f = absurd (f a refl)

  pub condition : {t : Bool} {a b : A} → only_if t a ≡ some b → (t ≡ true) × (a ≡ b)
  condition {t = true} e = (refl, some-injective _ _ e)
  condition {t = false} e = none-is-some e

  -- the first of two results, or the second
  pub choice : {C : Type 0} {o p : Option A} {a : A} → (o or_else p) ≡ some a → (o ≡ some a → C) → (o ≡ none → p ≡ some a → C) → C
  choice {o = none} e f g = g refl e
  choice {o = some b} e f g = f e

-- the same, with the result before given as a value
pub bind-some : {A B : Type 0} (o : Option A) (f : A → Option B) {b : B} → (o >>= f) ≡ some b → (a : A) × (o ≡ some a) × (f a ≡ some b)
bind-some o f e = bound {o = o} e (λ a p q. (a, p, q))

-- a result that passes, and one that is there and does not
pub is_some : {A : Type 0} (o : Option A) (p : A → Bool) → (o is p) ≡ true → (a : A) × (o ≡ some a) × (p a ≡ true)
is_some none p e = false-is-true e
is_some (some a) p e = (a, refl, e)

pub some-not : {A : Type 0} (o : Option A) (p : A → Bool) → (o is p) ≡ false → (a : A) → o ≡ some a → p a ≡ false
some-not {A} o p e a q = ap (λ (x : Option A). x is p) (sym q) ∙ e

-- a result that is not missing
pub is-there : {A : Type 0} (o : Option A) → is_none o ≡ false → (a : A) × (o ≡ some a)
is-there none e = absurd (true≢false e)
is-there (some a) e = (a, refl)
