-- Notation: choice, partial results and lists. Nothing here comes from document 01; the definitions that do are written with these words. Of the words
-- before a definition, `pub` says that other files use it; `abbrev`, `unfoldable` and `unfolding` matter to proofs alone.
use Rattle.std.specs.Prelude.{ℕ, zero, suc, ◌+◌, Bool, true, false, List, [], ◌∷◌, ◌++◌, ltb}
use Rattle.std.proofs.Math.Option.{Option, none, some}

infix 0 if◌then◌otherwise◌
abbrev pub if◌then◌otherwise◌ : {A : Type 0} → Bool → A → A → A
if c then a otherwise b = elim c [ true ↦ a | false ↦ b ]

-- a step that needs the result of the one before; none where that has none
infixl 1 ◌>>=◌
abbrev pub ◌>>=◌ : {A B : Type 0} → Option A → (A → Option B) → Option B
none >>= f = none
some a >>= f = f a

-- the first result, or the second where the first has none
infixr 2 ◌or_else◌
abbrev pub ◌or_else◌ : {A : Type 0} → Option A → Option A → Option A
none or_else b = b
some a or_else b = some a

-- whether there is a result, and it passes
infix 3 ◌is◌
abbrev pub ◌is◌ : {A : Type 0} → Option A → (A → Bool) → Bool
none is p = false
some a is p = p a

abbrev pub is_none : {A : Type 0} → Option A → Bool
is_none none = true
is_none (some a) = false

-- the value, if a test holds
abbrev pub only_if : {A : Type 0} → Bool → A → Option A
only_if true a = some a
only_if false a = none

module _ {A : Type 0} where
  abbrev pub is_empty : List A → Bool
  is_empty [] = true
  is_empty (x ∷ xs) = false

  -- some element passes
  abbrev pub any_of : (A → Bool) → List A → Bool
  any_of p [] = false
  any_of p (x ∷ xs) = if p x then true otherwise any_of p xs

  -- each element passes
  abbrev pub all_of : (A → Bool) → List A → Bool
  all_of p [] = true
  all_of p (x ∷ xs) = if p x then all_of p xs otherwise false

  -- the elements that pass, in their order
  abbrev pub filter : (A → Bool) → List A → List A
  filter p [] = []
  filter p (x ∷ xs) = if p x then x ∷ filter p xs otherwise filter p xs

  -- how many elements pass
  abbrev pub count_of : (A → Bool) → List A → ℕ
  count_of p [] = 0
  count_of p (x ∷ xs) = if p x then suc (count_of p xs) otherwise count_of p xs

  -- the sum of what f gives for each element
  abbrev pub sum_of : (A → ℕ) → List A → ℕ
  sum_of f [] = 0
  sum_of f (x ∷ xs) = f x + sum_of f xs

  -- the elements before the first that passes
  abbrev pub before : (A → Bool) → List A → List A
  before p [] = []
  before p (x ∷ xs) = if p x then [] otherwise x ∷ before p xs

  -- the number of the first element that passes; numbers start at 0
  abbrev pub place : (A → Bool) → List A → Option ℕ
  place p [] = none
  place p (x ∷ xs) = if p x then some 0 otherwise (place p xs >>= λ n. some (suc n))

  -- the first element that passes
  abbrev pub find : (A → Bool) → List A → Option A
  find p [] = none
  find p (x ∷ xs) = if p x then some x otherwise find p xs

  -- one more before the first whose number is greater, so that numbers rise where they rose
  abbrev pub inserted : (A → ℕ) → A → List A → List A
  inserted number x [] = x ∷ []
  inserted number x (y ∷ ys) = if ltb (number x) (number y) then x ∷ y ∷ ys otherwise y ∷ inserted number x ys

  -- the element of a number
  abbrev pub nth : List A → ℕ → Option A
  nth [] n = none
  nth (x ∷ xs) zero = some x
  nth (x ∷ xs) (suc n) = nth xs n

  -- the elements with their numbers, the first of which is k
  abbrev pub numbered_from : ℕ → List A → List (ℕ × A)
  numbered_from k [] = []
  numbered_from k (x ∷ xs) = (k, x) ∷ numbered_from (suc k) xs

  abbrev pub numbered : List A → List (ℕ × A)
  numbered xs = numbered_from 0 xs

-- what f gives for each element
abbrev pub map : {A B : Type 0} → (A → B) → List A → List B
map f [] = []
map f (x ∷ xs) = f x ∷ map f xs

-- the lists that f gives for each element, one after another
abbrev pub each : {A B : Type 0} → (A → List B) → List A → List B
each f [] = []
each f (x ∷ xs) = f x ++ each f xs

-- a result as a list: of one, or of none
abbrev pub listed : {A : Type 0} → Option A → List A
listed none = []
listed (some a) = a ∷ []

-- the numbers below n, from 0 up
abbrev pub below : ℕ → List ℕ
below zero = []
below (suc n) = below n ++ n ∷ []
