-- Laws of the words on lists: what `any_of`, `all_of`, `filter`, `count_of`, `place`, `nth`, `numbered`, `map`, `each` and `below` say of the elements. Assumes nothing.
use Prim.Native.Nat.{ℕ, zero, suc, ◌+◌, ◌≤◌, ◌<◌}
use mathlib.Core.Path.{◌≡◌, refl, sym, ap, ap₂, subst, ◌∙◌}
use mathlib.Core.Logic.{◌⊎◌, inl, inr, ⊎_elim}
use mathlib.Core.Bool.{Bool, true, false, ◌||◌, true≢false}
use mathlib.Core.List.Memᴰ
use mathlib.Core.List.Memᴰ.{head as here}
use mathlib.Core.List.Memᴰ.{tail as there}
use mathlib.Core.List.{List, [], ◌∷◌, ◌++◌, Memᴰ, append_assoc, append-nil}
use mathlib.Core.Option.{Option, none, some, some-injective}
use native.Mathlib.Omega.{arith}
use native.Mathlib.Nat.{add-zero, add-suc, suc-add, eq-or-lt_of_le}
use lib.ListN.{length, length-append}
use Rattle.model.specs.Notation.{if◌then◌otherwise◌, ◌>>=◌, is_empty, any_of, all_of, filter, count_of, place, nth, numbered_from, map, each, below}
use Rattle.model.proofs.WordTables.{false-is-true, none-is-some}

-- membership
infix 40 ◌∈◌
abbrev pub ◌∈◌ : {A : Type 0} → A → List A → Type 0
x ∈ xs = Memᴰ x xs

pub true-or-false : (b : Bool) → (b ≡ true) ⊎ (b ≡ false)
true-or-false true = inl refl
true-or-false false = inr refl

-- functions that agree everywhere are equal
pub fun_ext : {A B : Type 0} {f g : A → B} → ((x : A) → f x ≡ g x) → f ≡ g
fun_ext h = λ i. λ x. h x i

-- two tests that imply each other are equal
pub same_truth : (a b : Bool) → (a ≡ true → b ≡ true) → (b ≡ true → a ≡ true) → a ≡ b
same_truth true b f g = sym (f refl)
same_truth false true f g = g refl
same_truth false false f g = refl

pub or_cases : (a b : Bool) → (a || b) ≡ true → (a ≡ true) ⊎ (b ≡ true)
or_cases true b e = inl refl
or_cases false b e = inr e

pub or_right : (a b : Bool) → b ≡ true → (a || b) ≡ true
or_right true b e = refl
or_right false b e = e

pub or_left : (a b : Bool) → a ≡ true → (a || b) ≡ true
or_left a b e = ap (λ (c : Bool). c || b) e

pub or-none : (a b : Bool) → (a || b) ≡ false → (a ≡ false) × (b ≡ false)
or-none true b e = absurd (true≢false e)
or-none false b e = (refl, e)

module _ {A : Type 0} where
  -- some element passes exactly when there is one
  pub any-in : (p : A → Bool) (xs : List A) → any_of p xs ≡ true → (x : A) × (x ∈ xs) × (p x ≡ true)
  any-in p [] e = absurd (true≢false (sym e))
  any-in p (x ∷ xs) e = go (p x) refl (any-in p xs) e
    where
      go : (t : Bool) → p x ≡ t → (any_of p xs ≡ true → (y : A) × (y ∈ xs) × (p y ≡ true))
          → (elim t as (λ _. Bool) [ true ↦ true | false ↦ any_of p xs ]) ≡ true → (y : A) × (y ∈ (x ∷ xs)) × (p y ≡ true)
      go true q f e = (x, here refl, q)
      go false q f e = let r = f e in (r.0, there r.1, r.2)

  pub in-any : (p : A → Bool) {x : A} {xs : List A} → x ∈ xs → p x ≡ true → any_of p xs ≡ true
  in-any p (here {x = y} {xs = xs} e) q =
      ap (λ (t : Bool). elim t as (λ _. Bool) [ true ↦ true | false ↦ any_of p xs ]) (ap p (sym e) ∙ q)
  in-any p (there {x = y} {xs = xs} m) q = go (p y) (in-any p m q)
    where
      go : (t : Bool) → any_of p xs ≡ true → (elim t as (λ _. Bool) [ true ↦ true | false ↦ any_of p xs ]) ≡ true
      go true r = refl
      go false r = r

  pub any-ext : (p q : A → Bool) (xs : List A) → ((x : A) → x ∈ xs → p x ≡ q x) → any_of p xs ≡ any_of q xs
  any-ext p q [] f = refl
  any-ext p q (x ∷ xs) f =
      ap₂ (λ (a b : Bool). elim a as (λ _. Bool) [ true ↦ true | false ↦ b ]) (f x (here refl)) (any-ext p q xs (λ y m. f y (there m)))

  pub filter-ext : (p q : A → Bool) (xs : List A) → ((x : A) → x ∈ xs → p x ≡ q x) → filter p xs ≡ filter q xs
  filter-ext p q [] f = refl
  filter-ext p q (x ∷ xs) f =
      ap₂ (λ (a : Bool) (l : List A). elim a as (λ _. List A) [ true ↦ x ∷ l | false ↦ l ]) (f x (here refl)) (filter-ext p q xs (λ y m. f y (there m)))

  pub in-filter : (p : A → Bool) (xs : List A) {y : A} → y ∈ filter p xs → (y ∈ xs) × (p y ≡ true)
  in-filter p [] m = elim m [ ]
  in-filter p (x ∷ xs) {y} m = go (p x) refl (λ n. in-filter p xs n) m
    where
      below-head : (t : Bool) → p x ≡ t → t ≡ true → (y ≡ x) ⊎ (y ∈ filter p xs) → (y ∈ filter p xs → (y ∈ xs) × (p y ≡ true)) → (y ∈ (x ∷ xs)) × (p y ≡ true)
      below-head t e on (inl q) f = (here q, ap p q ∙ e ∙ on)
      below-head t e on (inr n) f = let r = f n in (there r.0, r.1)

      split : y ∈ (x ∷ filter p xs) → (y ≡ x) ⊎ (y ∈ filter p xs)
      split (here q) = inl q
      split (there n) = inr n

      go : (t : Bool) → p x ≡ t → (y ∈ filter p xs → (y ∈ xs) × (p y ≡ true))
          → y ∈ (elim t as (λ _. List A) [ true ↦ x ∷ filter p xs | false ↦ filter p xs ]) → (y ∈ (x ∷ xs)) × (p y ≡ true)
      go true e f n = below-head true e refl (split n) f
      go false e f n = let r = f n in (there r.0, r.1)

  pub filter-in : (p : A → Bool) {y : A} {xs : List A} → y ∈ xs → p y ≡ true → y ∈ filter p xs
  filter-in p {y = y} (here {x = x} {xs = xs} e) q =
      subst (λ (t : Bool). y ∈ (elim t as (λ _. List A) [ true ↦ x ∷ filter p xs | false ↦ filter p xs ])) (sym q ∙ ap p e) (here e)
  filter-in p {y = y} (there {x = x} {xs = xs} m) q = go (p x) (filter-in p m q)
    where
      go : (t : Bool) → y ∈ filter p xs → y ∈ (elim t as (λ _. List A) [ true ↦ x ∷ filter p xs | false ↦ filter p xs ])
      go true n = there n
      go false n = n

  -- counts
  pub count-le : (p : A → Bool) (xs : List A) → count_of p xs ≤ length xs
  count-le p [] = omega arith
  count-le p (x ∷ xs) = go (p x) (count-le p xs)
    where
      go : (t : Bool) → count_of p xs ≤ length xs → (elim t as (λ _. ℕ) [ true ↦ suc (count_of p xs) | false ↦ count_of p xs ]) ≤ suc (length xs)
      go true h = omega arith
      go false h = omega arith

  pub count-within : (p q : A → Bool) (xs : List A) → ((x : A) → x ∈ xs → p x ≡ true → q x ≡ true) → count_of p xs ≤ count_of q xs
  count-within p q [] f = omega arith
  count-within p q (x ∷ xs) f = go (p x) refl (q x) refl (count-within p q xs (λ y m. f y (there m)))
    where
      go : (s : Bool) → p x ≡ s → (t : Bool) → q x ≡ t → count_of p xs ≤ count_of q xs
          → (elim s as (λ _. ℕ) [ true ↦ suc (count_of p xs) | false ↦ count_of p xs ]) ≤ (elim t as (λ _. ℕ) [ true ↦ suc (count_of q xs) | false ↦ count_of q xs ])
      go true a true b h = omega arith
      go true a false b h = absurd (true≢false (sym (f x (here refl) a) ∙ b))
      go false a true b h = omega arith
      go false a false b h = h

  pub count-grows : (p q : A → Bool) (xs : List A) → ((x : A) → p x ≡ true → q x ≡ true) → count_of p xs ≤ count_of q xs
  count-grows p q xs f = count-within p q xs (λ x m. f x)

  -- those of either, where none passes both
  pub count-or : (p q : A → Bool) (xs : List A) → ((x : A) → p x ≡ true → q x ≡ true → ⊥) → count_of (λ x. p x || q x) xs ≡ count_of p xs + count_of q xs
  count-or p q [] f = omega arith
  count-or p q (x ∷ xs) f = go (p x) refl (q x) refl (count-or p q xs f)
    where
      go : (s : Bool) → p x ≡ s → (t : Bool) → q x ≡ t → count_of (λ x. p x || q x) xs ≡ count_of p xs + count_of q xs
          → (if s || t then suc (count_of (λ x. p x || q x) xs) otherwise count_of (λ x. p x || q x) xs)
          ≡ (if s then suc (count_of p xs) otherwise count_of p xs) + (if t then suc (count_of q xs) otherwise count_of q xs)
      go true a true b h = absurd (f x a b)
      go true a false b h = omega arith
      go false a true b h = omega arith
      go false a false b h = h

  -- one more at the end
  pub count-last : (p : A → Bool) (xs : List A) (x : A) → count_of p (xs ++ x ∷ []) ≡ count_of p xs + (if p x then 1 otherwise 0)
  count-last p [] x = go (p x)
    where
      go : (t : Bool) → (if t then 1 otherwise 0) ≡ 0 + (if t then 1 otherwise 0)
      go true = omega arith
      go false = omega arith
  count-last p (y ∷ xs) x = go (p y) (count-last p xs x)
    where
      go : (t : Bool) → count_of p (xs ++ x ∷ []) ≡ count_of p xs + (if p x then 1 otherwise 0)
          → (if t then suc (count_of p (xs ++ x ∷ [])) otherwise count_of p (xs ++ x ∷ [])) ≡ (if t then suc (count_of p xs) otherwise count_of p xs) + (if p x then 1 otherwise 0)
      go true h = omega arith
      go false h = h

  -- one more passes: one that did not before
  pub count-more : (p q : A → Bool) {y : A} {xs : List A} → ((x : A) → p x ≡ true → q x ≡ true) → y ∈ xs → p y ≡ false → q y ≡ true → count_of p xs < count_of q xs
  count-more p q {y = y} f (here {x = x} {xs = xs} e) off on = go (p x) (q x) (ap p (sym e) ∙ off) (ap q (sym e) ∙ on) (count-grows p q xs f)
    where
      go : (s t : Bool) → s ≡ false → t ≡ true → count_of p xs ≤ count_of q xs
          → (elim s as (λ _. ℕ) [ true ↦ suc (count_of p xs) | false ↦ count_of p xs ]) < (elim t as (λ _. ℕ) [ true ↦ suc (count_of q xs) | false ↦ count_of q xs ])
      go true t a b h = absurd (true≢false a)
      go false true a b h = omega arith
      go false false a b h = absurd (true≢false (sym b))
  count-more p q {y = y} f (there {x = x} {xs = xs} m) off on = go (p x) refl (q x) refl (count-more p q f m off on)
    where
      go : (s : Bool) → p x ≡ s → (t : Bool) → q x ≡ t → count_of p xs < count_of q xs
          → (elim s as (λ _. ℕ) [ true ↦ suc (count_of p xs) | false ↦ count_of p xs ]) < (elim t as (λ _. ℕ) [ true ↦ suc (count_of q xs) | false ↦ count_of q xs ])
      go true a true b h = omega arith
      go true a false b h = absurd (true≢false (sym (f x a) ∙ b))
      go false a true b h = omega arith
      go false a false b h = h

  pub count-ext : (p q : A → Bool) (xs : List A) → ((x : A) → x ∈ xs → p x ≡ q x) → count_of p xs ≡ count_of q xs
  count-ext p q [] f = refl
  count-ext p q (x ∷ xs) f =
      ap₂ (λ (a : Bool) (n : ℕ). elim a as (λ _. ℕ) [ true ↦ suc n | false ↦ n ]) (f x (here refl)) (count-ext p q xs (λ y m. f y (there m)))

  pub count-append-none : (p : A → Bool) (xs : List A) (x : A) → p x ≡ false → count_of p (xs ++ x ∷ []) ≡ count_of p xs
  count-append-none p [] x e = ap (λ (a : Bool). elim a as (λ _. ℕ) [ true ↦ 1 | false ↦ 0 ]) e
  count-append-none p (y ∷ xs) x e = ap (λ (n : ℕ). elim (p y) as (λ _. ℕ) [ true ↦ suc n | false ↦ n ]) (count-append-none p xs x e)

  -- the element of a number
  pub nth-lt : (xs : List A) (k : ℕ) {x : A} → nth xs k ≡ some x → k < length xs
  nth-lt [] k {x} e = let z : ◌≡◌ {A = ℕ} 0 1 = cc in absurd (omega (arith, z))
  nth-lt (y ∷ xs) zero e = omega arith
  nth-lt (y ∷ xs) (suc k) e = let h = nth-lt xs k e in omega arith

  pub lt-nth : (xs : List A) (k : ℕ) → k < length xs → (x : A) × (nth xs k ≡ some x)
  lt-nth [] k h = absurd (omega arith)
  lt-nth (y ∷ xs) zero h = (y, refl)
  lt-nth (y ∷ xs) (suc k) h = lt-nth xs k (omega arith)

  pub nth_in : (xs : List A) (k : ℕ) {x : A} → nth xs k ≡ some x → x ∈ xs
  nth_in [] k e = none-is-some e
  nth_in (y ∷ xs) zero {x} e = here (sym (some-injective y x e))
  nth_in (y ∷ xs) (suc k) e = there (nth_in xs k e)

  pub nth-append : (xs ys : List A) (k : ℕ) {x : A} → nth xs k ≡ some x → nth (xs ++ ys) k ≡ some x
  nth-append [] ys k {x} e = let z : ◌≡◌ {A = ℕ} 0 1 = cc in absurd (omega (arith, z))
  nth-append (y ∷ xs) ys zero e = e
  nth-append (y ∷ xs) ys (suc k) e = nth-append xs ys k e

  -- the number of the first that passes
  pub place-nth : (p : A → Bool) (xs : List A) (k : ℕ) → place p xs ≡ some k → (x : A) × (nth xs k ≡ some x) × (p x ≡ true)
  place-nth p [] k e = let z : ◌≡◌ {A = ℕ} 0 1 = cc in absurd (omega (arith, z))
  place-nth p (x ∷ xs) k e = go (p x) refl (place p xs) (place-nth p xs) e
    where
      at_zero : (j : ℕ) → some 0 ≡ some j → p x ≡ true → (y : A) × (nth (x ∷ xs) j ≡ some y) × (p y ≡ true)
      at_zero zero f q = (x, refl, q)
      at_zero (suc j) f q = let z : ◌≡◌ {A = ℕ} 0 (suc j) = cc in absurd (omega (arith, z))

      at_suc : (i j : ℕ) → some (suc i) ≡ some j → (y : A) × (nth xs i ≡ some y) × (p y ≡ true) → (y : A) × (nth (x ∷ xs) j ≡ some y) × (p y ≡ true)
      at_suc i zero f r = let z : ◌≡◌ {A = ℕ} (suc i) 0 = cc in absurd (omega (arith, z))
      at_suc i (suc j) f r = let z : i ≡ j = cc in (r.0, ap (nth xs) (sym z) ∙ r.1, r.2)

      go : (t : Bool) → p x ≡ t → (o : Option ℕ) → ((j : ℕ) → o ≡ some j → (y : A) × (nth xs j ≡ some y) × (p y ≡ true))
          → (elim t as (λ _. Option ℕ) [ true ↦ some 0 | false ↦ o >>= λ n. some (suc n) ]) ≡ some k → (y : A) × (nth (x ∷ xs) k ≡ some y) × (p y ≡ true)
      go true q o f g = at_zero k g q
      go false q none f g = let z : ◌≡◌ {A = ℕ} 0 1 = cc in absurd (omega (arith, z))
      go false q (some i) f g = at_suc i k g (f i refl)

  -- the elements with their numbers
  pub in-numbered : (k : ℕ) (xs : List A) {v : ℕ × A} → v ∈ numbered_from k xs → (j : ℕ) × (v.0 ≡ k + j) × (nth xs j ≡ some v.1)
  in-numbered k [] m = elim m [ ]
  in-numbered k (x ∷ xs) {v} (here e) = (0, ap (λ (w : ℕ × A). w.0) e ∙ sym (add-zero k), ap (λ (w : ℕ × A). some w.1) (sym e))
  in-numbered k (x ∷ xs) {v} (there m) = let r = in-numbered (suc k) xs m in (suc r.0, r.1 ∙ suc-add k r.0 ∙ sym (add-suc k r.0), r.2)

  pub numbered-in : (k : ℕ) (xs : List A) (j : ℕ) {x : A} → nth xs j ≡ some x → (k + j, x) ∈ numbered_from k xs
  numbered-in k [] j e = none-is-some e
  numbered-in k (y ∷ xs) zero {x} e = here (ap₂ (λ (n : ℕ) (z : A). (n, z)) (add-zero k) (sym (some-injective y x e)))
  numbered-in k (y ∷ xs) (suc j) {x} e =
      there (subst (λ (n : ℕ). (n, x) ∈ numbered_from (suc k) xs) (suc-add k j ∙ sym (add-suc k j)) (numbered-in (suc k) xs j e))

-- what f gives for the elements
module _ {A B : Type 0} (f : A → B) where
  pub in_map : (xs : List A) {y : B} → y ∈ map f xs → (x : A) × (x ∈ xs) × (y ≡ f x)
  in_map [] m = elim m [ ]
  in_map (x ∷ xs) (here e) = (x, here refl, e)
  in_map (x ∷ xs) (there m) = let r = in_map xs m in (r.0, there r.1, r.2)

  pub map-append : (xs ys : List A) → map f (xs ++ ys) ≡ map f xs ++ map f ys
  map-append [] ys = refl
  map-append (x ∷ xs) ys = ap (λ (l : List B). f x ∷ l) (map-append xs ys)

  pub map-in : {x : A} {xs : List A} → x ∈ xs → f x ∈ map f xs
  map-in (here e) = here (ap f e)
  map-in (there m) = there (map-in m)

-- the numbers below n
pub count_map : {A B : Type 0} (f : A → B) (p : B → Bool) (xs : List A) → count_of p (map f xs) ≡ count_of (λ x. p (f x)) xs
count_map f p [] = refl
count_map f p (x ∷ xs) = ap (λ (n : ℕ). if p (f x) then suc n otherwise n) (count_map f p xs)

pub in-below : (n : ℕ) {k : ℕ} → k ∈ below n → k < n
in-below zero m = elim m [ ]
in-below (suc n) {k} m = ⊎_elim (λ a. omega (arith, in-below n a)) (λ a. omega (arith, Memᴰ.eq_of_singleton a)) (Memᴰ.append_cases (below n) m)

pub below_in : (n k : ℕ) → k < n → k ∈ below n
below_in zero k h = absurd (omega arith)
below_in (suc n) k h =
    ⊎_elim (λ e. Memᴰ.append_right (below n) (here e)) (λ l. Memᴰ.append_left (n ∷ []) (below_in n k l)) (eq-or-lt_of_le (last k n h))
  where
    last : (k n : ℕ) → k < suc n → k ≤ n
    last k n h = omega arith

pub length-below : (n : ℕ) → length (below n) ≡ n
length-below zero = refl
length-below (suc n) = length-append (below n) (n ∷ []) ∙ rw (length-below n) (omega arith)

-- numbers from m up that do not pass do not count
pub count-below : (p : ℕ → Bool) (m n : ℕ) → m ≤ n → ((k : ℕ) → m ≤ k → k < n → p k ≡ false) → count_of p (below n) ≡ count_of p (below m)
count-below p m zero h e = let z : zero ≡ m = omega arith in ap (λ (k : ℕ). count_of p (below k)) z
count-below p m (suc n) h e =
    ⊎_elim (λ q. ap (λ (k : ℕ). count_of p (below k)) (sym q))
    (λ l. count-append-none p (below n) n (e n (under m n l) (omega arith)) ∙ count-below p m n (under m n l) (λ k a b. e k a (omega arith)))
    (eq-or-lt_of_le h)
  where
    under : (m n : ℕ) → m < suc n → m ≤ n
    under m n h = omega arith

-- each element passes
module _ {A : Type 0} (p : A → Bool) where
  pub all-parts : (x : A) (s : List A) → all_of p (x ∷ s) ≡ true → (p x ≡ true) × (all_of p s ≡ true)
  all-parts x s e = go (p x) refl
    where
      go : (t : Bool) → p x ≡ t → (p x ≡ true) × (all_of p s ≡ true)
      go true q = (q, rw (all_of, q) at e)
      go false q = false-is-true (rw (all_of, q) at e)

  pub all_in : (s : List A) {x : A} → all_of p s ≡ true → x ∈ s → p x ≡ true
  all_in [] e m = elim m [ ]
  all_in (y ∷ s) e (here z) = ap p z ∙ (all-parts y s e).0
  all_in (y ∷ s) e (there m) = all_in s (all-parts y s e).1 m

  pub all_cons : (x : A) (s : List A) → p x ≡ true → all_of p s ≡ true → all_of p (x ∷ s) ≡ true
  all_cons x s e f = rw (all_of, e) f

  pub all_append : (s t : List A) → all_of p s ≡ true → all_of p t ≡ true → all_of p (s ++ t) ≡ true
  all_append [] t e f = f
  all_append (x ∷ s) t e f = let (h, r) = all-parts x s e in all_cons x (s ++ t) h (all_append s t r f)

-- a test that follows from another
pub all-by : {A : Type 0} (p q : A → Bool) → ((x : A) → p x ≡ true → q x ≡ true) → (s : List A) → all_of p s ≡ true → all_of q s ≡ true
all-by p q f [] e = refl
all-by p q f (x ∷ s) e = let (h, r) = all-parts p x s e in all_cons q x s (f x h) (all-by p q f s r)

pub empty : {A : Type 0} (s : List A) → is_empty s ≡ true → s ≡ []
empty [] e = refl
empty (x ∷ s) e = false-is-true e

-- the lists of a list's elements, one after another
pub each_append : {A B : Type 0} (f : A → List B) (xs ys : List A) → each f (xs ++ ys) ≡ each f xs ++ each f ys
each_append f [] ys = refl
each_append {B = B} f (x ∷ xs) ys = ap (λ (l : List B). f x ++ l) (each_append f xs ys) ∙ sym (append_assoc (f x) (each f xs) (each f ys))

pub each-each : {A B C : Type 0} (f : B → List C) (g : A → List B) (xs : List A) → each f (each g xs) ≡ each (λ x. each f (g x)) xs
each-each f g [] = refl
each-each {C = C} f g (x ∷ xs) = each_append f (g x) (each g xs) ∙ ap (λ (l : List C). each f (g x) ++ l) (each-each f g xs)

pub each_below : {B : Type 0} (f : ℕ → List B) (n : ℕ) → each f (below (suc n)) ≡ each f (below n) ++ f n
each_below {B} f n = each_append f (below n) (n ∷ []) ∙ ap (λ (l : List B). each f (below n) ++ l) (append-nil (f n))
