-- Lists with more at the end: what had a number keeps it, what is found is found, and what holds of each holds of one more. Assumes nothing.
use Prim.Native.Nat.{ℕ, zero, suc, ◌≤◌}
use mathlib.Core.Path.{◌≡◌, refl, sym, ap, ◌∙◌}
use mathlib.Core.Logic.{◌⊎◌, inl, inr, ⊎_elim}
use mathlib.Core.Bool.{Bool, true, false, true≢false}
use mathlib.Core.List.{List, [], ◌∷◌, ◌++◌}
use mathlib.Core.Option.{Option, none, some, some-injective}
use native.Mathlib.Omega.{arith}
use lib.ListN.{length, length-append}
use lib.Dec.{leb}
use borrow.Author.Tests.{leb-false}
use Rattle.model.specs.Notation.{if◌then◌otherwise◌, ◌>>=◌, any_of, place, nth}
use Rattle.model.specs.Standing.{Each, Unique}
use Rattle.model.proofs.WordTables.{none-is-some}

module _ {A : Type 0} where
  -- the element of a number is an old one or the last
  pub nth_last : (xs : List A) (x : A) (k : ℕ) {y : A} → nth (xs ++ x ∷ []) k ≡ some y → (nth xs k ≡ some y) ⊎ ((k ≡ length xs) × (x ≡ y))
  nth_last [] x zero e = inr (refl, some-injective _ _ e)
  nth_last [] x (suc k) e = none-is-some e
  nth_last (z ∷ xs) x zero e = inl e
  nth_last (z ∷ xs) x (suc k) e = ⊎_elim inl (λ q. inr (ap suc q.0, q.1)) (nth_last xs x k e)

  pub each_more : {P : A → Type 0} (xs : List A) (x : A) → Each P xs → P x → Each P (xs ++ x ∷ [])
  each_more {P} xs x f p k y e = ⊎_elim (f k y) (λ q. rw q.1 at p) (nth_last xs x k e)

  -- what is told from all the others is told from one more
  pub unique-more : (alike : A → A → Bool) (xs : List A) (x : A) → Unique alike xs
      → ((i : ℕ) (y : A) → nth xs i ≡ some y → (alike y x ≡ false) × (alike x y ≡ false)) → Unique alike (xs ++ x ∷ [])
  unique-more alike xs x unique other i j y z e f same =
      ⊎_elim
      (λ old. ⊎_elim (λ old'. unique i j y z old old' same) (λ new. absurd (true≢false (sym (rw (← new.1) at same) ∙ (other i y old).0))) (nth_last xs x j f))
      (λ new. ⊎_elim (λ old'. absurd (true≢false (sym (rw (← new.1) at same) ∙ (other j z old').1))) (λ new'. new.0 ∙ sym new'.0) (nth_last xs x j f))
      (nth_last xs x i e)

  -- the first that passes stays the first
  pub place-append : (p : A → Bool) (xs ys : List A) {k : ℕ} → place p xs ≡ some k → place p (xs ++ ys) ≡ some k
  place-append p [] ys e = none-is-some e
  place-append p (x ∷ xs) ys {k} e = go (p x) (place p xs) (place p (xs ++ ys)) (λ j f. place-append p xs ys f) e
    where
      go : (t : Bool) (o o' : Option ℕ) → ((j : ℕ) → o ≡ some j → o' ≡ some j)
          → (if t then some 0 otherwise (o >>= λ n. some (suc n))) ≡ some k → (if t then some 0 otherwise (o' >>= λ n. some (suc n))) ≡ some k
      go true o o' f g = g
      go false none o' f g = none-is-some g
      go false (some j) o' f g = rw (f j refl) g

  -- nothing passes where nothing is found
  pub place-nowhere : (p : A → Bool) (xs : List A) → place p xs ≡ none → (i : ℕ) (x : A) → nth xs i ≡ some x → p x ≡ false
  place-nowhere p [] e i x f = none-is-some f
  place-nowhere p (y ∷ xs) e i x f = go (p y) refl (place p xs) (place-nowhere p xs) e i f
    where
      go : (t : Bool) → p y ≡ t → (o : Option ℕ) → (o ≡ none → (j : ℕ) (z : A) → nth xs j ≡ some z → p z ≡ false)
          → (if t then some 0 otherwise (o >>= λ n. some (suc n))) ≡ none → (j : ℕ) → nth (y ∷ xs) j ≡ some x → p x ≡ false
      go true q o g h j k = none-is-some (sym h)
      go false q (some m) g h j k = none-is-some (sym h)
      go false q none g h zero k = ap p (sym (some-injective _ _ k)) ∙ q
      go false q none g h (suc j) k = g refl j x k

  pub any-none-by : (p q : A → Bool) → ((x : A) → p x ≡ false → q x ≡ false) → (xs : List A) → any_of p xs ≡ false → any_of q xs ≡ false
  any-none-by p q f [] e = refl
  any-none-by p q f (x ∷ xs) e = go (p x) refl e (any-none-by p q f xs)
    where
      go : (t : Bool) → p x ≡ t → (if t then true otherwise any_of p xs) ≡ false → (any_of p xs ≡ false → any_of q xs ≡ false) → (if q x then true otherwise any_of q xs) ≡ false
      go true h g more = absurd (true≢false g)
      go false h g more = rw (f x h) (more g)

-- there is room for one more
pub one-longer : {A : Type 0} (n : ℕ) (xs : List A) (x : A) → leb n (length xs) ≡ false → length (xs ++ x ∷ []) ≤ n
one-longer n xs x e = omega (arith, length-append xs (x ∷ []), leb-false n (length xs) e)
