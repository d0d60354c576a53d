-- Laws of sums over lists. Assumes nothing.
use Prim.Native.Nat.{ℕ, suc, ◌+◌, ◌*◌, ◌≤◌}
use mathlib.Core.Path.{◌≡◌, refl, ap, ap₂}
use mathlib.Core.Bool.{Bool, true, false}
use mathlib.Core.List.Memᴰ.{head as here}
use mathlib.Core.List.Memᴰ.{tail as there}
use mathlib.Core.List.{List, [], ◌∷◌, ◌++◌}
use native.Mathlib.Nat.{mul-suc}
use native.Mathlib.Omega.{arith}
use lib.ListN.{length}
use Rattle.model.specs.Notation.{if◌then◌otherwise◌, filter, count_of, sum_of}
use Rattle.model.proofs.Lists.{◌∈◌}

module _ {A : Type 0} where
  -- one more at the end
  pub sum-last : (f : A → ℕ) (xs : List A) (x : A) → sum_of f (xs ++ x ∷ []) ≡ sum_of f xs + f x
  sum-last f [] x = omega arith
  sum-last f (y ∷ xs) x = omega (arith, sum-last f xs x)

  pub sum-ext : (f g : A → ℕ) (xs : List A) → ((x : A) → x ∈ xs → f x ≡ g x) → sum_of f xs ≡ sum_of g xs
  sum-ext f g [] e = refl
  sum-ext f g (x ∷ xs) e = ap₂ (λ (a b : ℕ). a + b) (e x (here refl)) (sum-ext f g xs (λ y m. e y (there m)))

  pub sum-none : (f : A → ℕ) (xs : List A) → ((x : A) → x ∈ xs → f x ≡ 0) → sum_of f xs ≡ 0
  sum-none f [] e = refl
  sum-none f (x ∷ xs) e = omega (arith, e x (here refl), sum-none f xs (λ y m. e y (there m)))

  pub sum-most : (f : A → ℕ) (most : ℕ) (xs : List A) → ((x : A) → x ∈ xs → f x ≤ most) → sum_of f xs ≤ most * length xs
  sum-most f most [] e = omega arith
  sum-most f most (x ∷ xs) e = omega (arith, e x (here refl), sum-most f most xs (λ y m. e y (there m)), mul-suc most (length xs))

  pub sum-add : (f g : A → ℕ) (xs : List A) → sum_of (λ x. f x + g x) xs ≡ sum_of f xs + sum_of g xs
  sum-add f g [] = omega arith
  sum-add f g (x ∷ xs) = omega (arith, sum-add f g xs)

  -- over those that pass: what the others would give is left out
  pub sum-filter : (f : A → ℕ) (p : A → Bool) (xs : List A) → sum_of f (filter p xs) ≡ sum_of (λ x. if p x then f x otherwise 0) xs
  sum-filter f p [] = refl
  sum-filter f p (x ∷ xs) = go (p x) (sum-filter f p xs)
    where
      go : (b : Bool) → sum_of f (filter p xs) ≡ sum_of (λ x. if p x then f x otherwise 0) xs
          → sum_of f (if b then x ∷ filter p xs otherwise filter p xs) ≡ (if b then f x otherwise 0) + sum_of (λ x. if p x then f x otherwise 0) xs
      go true e = ap (λ (n : ℕ). f x + n) e
      go false e = omega (arith, e)

  -- a count is a sum of ones
  pub count-sum : (p : A → Bool) (xs : List A) → count_of p xs ≡ sum_of (λ x. if p x then 1 otherwise 0) xs
  count-sum p [] = refl
  count-sum p (x ∷ xs) = go (p x) (count-sum p xs)
    where
      go : (b : Bool) → count_of p xs ≡ sum_of (λ x. if p x then 1 otherwise 0) xs
          → (if b then suc (count_of p xs) otherwise count_of p xs) ≡ (if b then 1 otherwise 0) + sum_of (λ x. if p x then 1 otherwise 0) xs
      go true e = omega (arith, e)
      go false e = omega (arith, e)
