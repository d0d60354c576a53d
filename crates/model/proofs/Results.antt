-- What holds of a partial result, if there is one.
use mathlib.Core.Path.{◌≡◌, refl}
use mathlib.Core.Bool.{Bool, true, false}
use mathlib.Core.Option.{Option, none, some}
use Rattle.model.specs.Notation.{◌>>=◌, ◌or_else◌, only_if}

-- if there is a result, it is so
abbrev pub Whenever : {A : Type 0} → (A → Type 0) → Option A → Type 0
Whenever P none = Unit {0}
Whenever P (some a) = P a

pub result : {A : Type 0} (r : Option A) → Whenever (λ a. r ≡ some a) r
result none = tt
result (some a) = refl

-- what holds of the steps holds of what they are put together to
module _ {A B : Type 0} (P : A → Type 0) (Q : B → Type 0) where
  pub bind-so : (f : A → Option B) (r : Option A) → Whenever P r → ((a : A) → P a → Whenever Q (f a)) → Whenever Q (r >>= f)
  bind-so f none p h = tt
  bind-so f (some a) p h = h a p

  pub case-so : (f : A → B) (d : B) (r : Option A) → Whenever P r → ((a : A) → P a → Q (f a)) → Q d
      → Q (elim r as (λ _. B) [ some a ↦ f a | none ↦ d ])
  case-so f d none p h q = q
  case-so f d (some a) p h q = h a p

pub map-so : {A : Type 0} (P Q : A → Type 0) (r : Option A) → Whenever P r → ((a : A) → P a → Q a) → Whenever Q r
map-so P Q none p h = tt
map-so P Q (some a) p h = h a p

module _ {A : Type 0} (P : A → Type 0) where
  pub if-so : (t : Bool) (r : Option A) → (t ≡ true → Whenever P r) → Whenever P (elim t as (λ _. Option A) [ true ↦ r | false ↦ none ])
  if-so true r h = h refl
  if-so false r h = tt

  pub only_so : (t : Bool) (a : A) → (t ≡ true → P a) → Whenever P (only_if t a)
  only_so true a h = h refl
  only_so false a h = tt

  pub else-so : (r q : Option A) → Whenever P r → Whenever P q → Whenever P (r or_else q)
  else-so none q h k = k
  else-so (some a) q h k = h
