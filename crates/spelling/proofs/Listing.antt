-- Lists laid one after another, for the elements of a list: laws of `each`. Assumes nothing.
use Prim.Native.Nat.{ℕ, zero, suc, ◌≤◌, ◌<◌}
use mathlib.Core.Path.{◌≡◌, refl, sym, ap, ap₂, ◌∙◌}
use mathlib.Core.Bool.{Bool, true, false}
use mathlib.Core.List.{List, [], ◌∷◌, ◌++◌, append-nil}
use mathlib.Core.Option.{some}
use native.Mathlib.Decide.{dec_lt}
use native.Mathlib.Omega.{arith}
use lib.ListN.{length}
use Rattle.model.specs.Notation.{if◌then◌otherwise◌, map, each, filter, nth, below}
use Rattle.model.specs.Bytes.{Bytes}
use Rattle.model.proofs.Lists.{each_below}

module _ {A B : Type 0} where
  -- the same for each element
  pub each-ext : (f g : A → List B) (xs : List A) → ((x : A) → f x ≡ g x) → each f xs ≡ each g xs
  each-ext f g [] h = refl
  each-ext f g (x ∷ xs) h = ap₂ (λ (l m : List B). l ++ m) (h x) (each-ext f g xs h)

  -- of the elements that pass
  pub each-filter : (f : A → List B) (p : A → Bool) (xs : List A) → each f (filter p xs) ≡ each (λ x. if p x then f x otherwise []) xs
  each-filter f p [] = refl
  each-filter f p (x ∷ xs) = go (p x) (each-filter f p xs)
    where
      go : (b : Bool) → each f (filter p xs) ≡ each (λ y. if p y then f y otherwise []) xs
          → each f (if b then x ∷ filter p xs otherwise filter p xs) ≡ (if b then f x otherwise []) ++ each (λ y. if p y then f y otherwise []) xs
      go true e = ap (λ (l : List B). f x ++ l) e
      go false e = e

module _ {A B C : Type 0} where
  -- of what a function gives
  pub each_map : (f : B → List C) (g : A → B) (xs : List A) → each f (map g xs) ≡ each (λ x. f (g x)) xs
  each_map f g [] = refl
  each_map f g (x ∷ xs) = ap (λ (l : List C). f (g x) ++ l) (each_map f g xs)

-- the numbers below suc n: 0, and one more than each below n
below-front : (n : ℕ) → below (suc n) ≡ 0 ∷ map suc (below n)
below-front zero = refl
below-front (suc n) = ap (λ (l : List ℕ). l ++ suc n ∷ []) (below-front n) ∙ ap (λ (l : List ℕ). 0 ∷ l) (sym (map_last (below n)))
  where
    map_last : (xs : List ℕ) → map suc (xs ++ n ∷ []) ≡ map suc xs ++ suc n ∷ []
    map_last [] = refl
    map_last (x ∷ xs) = ap (λ (l : List ℕ). suc x ∷ l) (map_last xs)

-- by the places of a list
pub each-place : {A : Type 0} (g : A → Bytes) (G : ℕ → Bytes) (xs : List A) → ((k : ℕ) (x : A) → nth xs k ≡ some x → G k ≡ g x)
    → each G (below (length xs)) ≡ each g xs
each-place g G [] h = refl
each-place g G (x ∷ xs) h =
    ap (each G) (below-front (length xs))
    ∙ ap₂ (λ (l m : Bytes). l ++ m) (h 0 x refl) (each_map G suc (below (length xs)) ∙ each-place g (λ k. G (suc k)) xs (λ k y e. h (suc k) y e))

-- by the places of a list that has as many elements: the texts of what a function gives
pub each-listed : {A B : Type 0} (text : B → Bytes) (g : A → B) (G : ℕ → Bytes) (xs : List A) {n : ℕ} → n ≡ length xs
    → ((k : ℕ) (x : A) → nth xs k ≡ some x → G k ≡ text (g x)) → each G (below n) ≡ each text (map g xs)
each-listed text g G xs e h = ap (λ (k : ℕ). each G (below k)) e ∙ each-place (λ x. text (g x)) G xs h ∙ sym (each_map text g xs)

-- texts that are empty from some number on
pub each_none : (f : ℕ → Bytes) (m n : ℕ) → m ≤ n → ((k : ℕ) → m ≤ k → k < n → f k ≡ []) → each f (below m) ≡ each f (below n)
each_none f m zero l h = ap (λ (k : ℕ). each f (below k)) (let z : m ≡ 0 = omega arith in z)
each_none f m (suc n) l h = go (dec_lt n m) (λ i. each_none f m n i (λ k a b. h k a (omega arith)))
  where
    go : Dec (n < m) → (m ≤ n → each f (below m) ≡ each f (below n)) → each f (below m) ≡ each f (below (suc n))
    go (yes p) more = ap (λ (k : ℕ). each f (below k)) (let z : m ≡ suc n = omega arith in z)
    go (no p) more = more (omega arith) ∙ sym (append-nil (each f (below n))) ∙ ap (λ (l : Bytes). each f (below n) ++ l) (sym (h n (omega arith) (omega arith))) ∙ sym (each_below f n)

-- texts that are the same
pub each_same : (f g : ℕ → Bytes) (n : ℕ) → ((k : ℕ) → k < n → f k ≡ g k) → each f (below n) ≡ each g (below n)
each_same f g zero h = refl
each_same f g (suc n) h = each_below f n ∙ ap₂ (λ (x y : Bytes). x ++ y) (each_same f g n (λ k l. h k (omega arith))) (h n (omega arith)) ∙ sym (each_below g n)
