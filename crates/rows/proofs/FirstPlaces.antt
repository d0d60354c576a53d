-- The number of the first element that passes, by the elements. Assumes nothing.
use Prim.Native.Nat.{ℕ, zero, suc, ◌≤◌, ◌<◌}
use native.Mathlib.Decide.{dec_lt}
use native.Mathlib.Omega.{arith}
use mathlib.Core.Path.{◌≡◌, refl, sym, ap, ap₂, ◌∙◌}
use mathlib.Core.Bool.{Bool, true, false, true≢false}
use mathlib.Core.List.{List, [], ◌∷◌}
use mathlib.Core.Option as math
use mathlib.Core.Option.{none, some, some-injective}
use lib.ListN.{length}
use Rattle.std.specs.Prelude.{Option, Some, None, IfSome, MatchOption}
use Rattle.model.specs.Notation.{◌>>=◌, place, nth}
use Rattle.model.proofs.WordTables.{none-is-some}
use Rattle.model.proofs.Lists.{nth-lt, lt-nth}
use Rattle.codes.specs.Enums.{told}

module _ {A : Type 0} (p : A → Bool) where
  pub place_none : (xs : List A) → ((i : ℕ) (x : A) → nth xs i ≡ some x → p x ≡ false) → place p xs ≡ none
  place_none [] f = refl
  place_none (x ∷ xs) f =
      ap₂ (λ (t : Bool) (o : math.Option ℕ). elim t as (λ _. math.Option ℕ) [ true ↦ some 0 | false ↦ o >>= λ n. some (suc n) ])
      (f 0 x refl) (place_none xs (λ i y e. f (suc i) y e))

  pub place-first : (xs : List A) (k : ℕ) (x : A) → nth xs k ≡ some x → p x ≡ true → ((i : ℕ) (y : A) → i < k → nth xs i ≡ some y → p y ≡ false)
      → place p xs ≡ some k
  place-first [] k x e t f = none-is-some e
  place-first (y ∷ xs) zero x e t f =
      ap (λ (b : Bool). elim b as (λ _. math.Option ℕ) [ true ↦ some 0 | false ↦ place p xs >>= λ n. some (suc n) ])
      (ap p (some-injective y x e) ∙ t)
  place-first (y ∷ xs) (suc k) x e t f =
      ap₂ (λ (b : Bool) (o : math.Option ℕ). elim b as (λ _. math.Option ℕ) [ true ↦ some 0 | false ↦ o >>= λ n. some (suc n) ])
      (f 0 y (omega arith) refl) (place-first xs k x e t (λ i z l g. f (suc i) z (omega arith) g))

-- r is the first number below the limit that passes, or none where none does
abbrev pub First : (ℕ → Bool) → ℕ → Option ℕ → Type 0
First passes limit r =
    MatchOption r ((k : ℕ) → 0 ≤ k → k < limit → passes k ≡ false)
    (λ i. (0 ≤ i) × (i < limit) × (passes i ≡ true) × ((k : ℕ) → 0 ≤ k → k < i → passes k ≡ false))

pub first-low : (passes : ℕ → Bool) (limit : ℕ) (r : Option ℕ) → First passes limit r → IfSome r (λ k. k < limit)
first-low passes limit None f = tt
first-low passes limit (Some k) (_, low, _, _) = low

-- the first row that passes has the place of the first element, where rows pass as their elements do, and none behind them
module _ {A : Type 0} (p : A → Bool) (xs : List A) (passes : ℕ → Bool) (limit : ℕ) (fits : length xs ≤ limit)
    (same : (i : ℕ) (x : A) → nth xs i ≡ some x → passes i ≡ p x) (behind : (i : ℕ) → length xs ≤ i → i < limit → passes i ≡ false) where
  pub first-told : (r : Option ℕ) → First passes limit r → r ≡ told (place p xs)
  first-told None f =
      ap told (sym (place_none p xs λ i x e. let l = nth-lt xs i e in sym (same i x e) ∙ f i (omega arith) (omega arith)))
  first-told (Some k) (_, h, t, f) = go (dec_lt k (length xs))
    where
      go : Dec (k < length xs) → Some k ≡ told (place p xs)
      go (yes l) =
          let (x, e) = lt-nth xs k l in
          ap told (sym (place-first p xs k x e (sym (same k x e) ∙ t) (λ i y m g. sym (same i y g) ∙ f i (omega arith) m)))
      go (no l) = absurd (true≢false (sym t ∙ behind k (omega arith) h))
