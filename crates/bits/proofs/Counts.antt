-- Some number below n passes, and how many do; the ones of a word. Assumes nothing.
use Prim.Native.Nat.{ℕ, zero, suc, ◌+◌, ◌*◌, ◌/◌, ◌%◌, ◌^◌, ◌≤◌, ◌<◌}
use mathlib.Core.Path.{◌≡◌, refl, sym, ap, ap₂, ◌∙◌}
use mathlib.Core.Logic.{◌⊎◌, ⊎_elim}
use mathlib.Core.Bool.{Bool, true, false, ◌&&◌, ◌||◌, or-false}
use mathlib.Core.List.{List, [], ◌∷◌, ◌++◌}
use native.Mathlib.Nat.{add-zero, add-suc, suc-add, zero-add, eq-or-lt_of_le}
use native.Mathlib.Numerals.{add-one}
use native.Mathlib.Decide.{ℕ_discrete}
use native.Mathlib.Omega.{arith}
use lib.Arith.{lt-one}
use lib.Count.{ones, ones_step}
use lib.Pow.{shr_lt}
use lib.Dec.{eqb}
use lib.ListN.{get_or}
use borrow.Author.Tests.{eq-eqb, eqb-true, ne_eqb}
use Rattle.model.specs.Notation.{if◌then◌otherwise◌, any_of, count_of, below}
use Rattle.model.proofs.Options.{parts}
use Rattle.model.proofs.Lists.{or-none, any-in, in-any, in-below, below_in, count-or as list-or}
use Rattle.model.proofs.Sums.{sum-none, count-sum}
use Rattle.model.proofs.Numbered.{sum-split}
use Rattle.bits.specs.Bits.{odd, bit, member, any_below, count_below}
use Rattle.bits.proofs.Bits.{bit-zero, bit-suc}

-- 1 or 0
abbrev pub num : Bool → ℕ
num true = 1
num false = 0

pub num-le : (b : Bool) → num b ≤ 1
num-le true = omega arith
num-le false = omega arith

-- ---- some

any_append : (f : ℕ → Bool) (xs ys : List ℕ) → any_of f (xs ++ ys) ≡ (any_of f xs || any_of f ys)
any_append f [] ys = refl
any_append f (x ∷ xs) ys = go (f x) (any_append f xs ys)
  where
    go : (b : Bool) → any_of f (xs ++ ys) ≡ (any_of f xs || any_of f ys)
        → (elim b as (λ _. Bool) [ true ↦ true | false ↦ any_of f (xs ++ ys) ]) ≡ ((elim b as (λ _. Bool) [ true ↦ true | false ↦ any_of f xs ]) || any_of f ys)
    go true e = refl
    go false e = e

any-one : (f : ℕ → Bool) (x : ℕ) → any_of f (x ∷ []) ≡ f x
any-one f x = go (f x)
  where
    go : (b : Bool) → (elim b as (λ _. Bool) [ true ↦ true | false ↦ false ]) ≡ b
    go true = refl
    go false = refl

pub any-suc : (n : ℕ) (f : ℕ → Bool) → any_below (suc n) f ≡ (any_below n f || f n)
unfolding any_below
any-suc n f = any_append f (below n) (n ∷ []) ∙ ap (λ (b : Bool). any_below n f || b) (any-one f n)

-- a turn of a loop
pub any-more : (n : ℕ) (f : ℕ → Bool) → any_below (n + 1) f ≡ (any_below n f || f n)
any-more n f = ap (λ (k : ℕ). any_below k f) (add-one n) ∙ any-suc n f

last : (i n : ℕ) → i < suc n → (i ≡ n) ⊎ (i < n)
last i n h = eq-or-lt_of_le (omega arith)

pub any-ext : (n : ℕ) (f g : ℕ → Bool) → ((i : ℕ) → i < n → f i ≡ g i) → any_below n f ≡ any_below n g
unfolding any_below
any-ext zero f g e = refl
any-ext (suc n) f g e = any-suc n f ∙ ap₂ (λ (a b : Bool). a || b) (any-ext n f g (λ i h. e i (omega arith))) (e n (omega arith)) ∙ sym (any-suc n g)

pub any_none : (n : ℕ) (f : ℕ → Bool) → any_below n f ≡ false → (i : ℕ) → i < n → f i ≡ false
unfolding any_below
any_none zero f e i h = absurd (omega arith)
any_none (suc n) f e i h =
    let s = or-none (any_below n f) (f n) (sym (any-suc n f) ∙ e) in
    ⊎_elim (λ p. ap f p ∙ s.1) (λ l. any_none n f s.0 i l) (last i n h)

pub any_at : (n : ℕ) (f : ℕ → Bool) → ((i : ℕ) → i < n → f i ≡ false) → any_below n f ≡ false
unfolding any_below
any_at zero f e = refl
any_at (suc n) f e = any-suc n f ∙ ap₂ (λ (a b : Bool). a || b) (any_at n f (λ i h. e i (omega arith))) (e n (omega arith))

-- some number below n passes exactly when there is one
pub any-find : (n : ℕ) (f : ℕ → Bool) → any_below n f ≡ true → (i : ℕ) × (i < n) × (f i ≡ true)
unfolding any_below
any-find n f e = let r = any-in f (below n) e in (r.0, in-below n r.1, r.2)

pub find-any : (n : ℕ) (f : ℕ → Bool) (i : ℕ) → i < n → f i ≡ true → any_below n f ≡ true
unfolding any_below
find-any n f i h e = in-any f (below_in n i h) e

-- ---- how many

count-append : (f : ℕ → Bool) (xs ys : List ℕ) → count_of f (xs ++ ys) ≡ count_of f xs + count_of f ys
count-append f [] ys = sym (zero-add (count_of f ys))
count-append f (x ∷ xs) ys = go (f x) (count-append f xs ys)
  where
    go : (b : Bool) → count_of f (xs ++ ys) ≡ count_of f xs + count_of f ys
        → (elim b as (λ _. ℕ) [ true ↦ suc (count_of f (xs ++ ys)) | false ↦ count_of f (xs ++ ys) ])
        ≡ (elim b as (λ _. ℕ) [ true ↦ suc (count_of f xs) | false ↦ count_of f xs ]) + count_of f ys
    go true e = ap suc e ∙ sym (suc-add (count_of f xs) (count_of f ys))
    go false e = e

count-one : (f : ℕ → Bool) (x : ℕ) → count_of f (x ∷ []) ≡ num (f x)
count-one f x = go (f x)
  where
    go : (b : Bool) → (elim b as (λ _. ℕ) [ true ↦ 1 | false ↦ 0 ]) ≡ num b
    go true = refl
    go false = refl

pub count-suc : (n : ℕ) (f : ℕ → Bool) → count_below (suc n) f ≡ count_below n f + num (f n)
unfolding count_below
count-suc n f = count-append f (below n) (n ∷ []) ∙ ap (λ (k : ℕ). count_below n f + k) (count-one f n)

pub count-ext : (n : ℕ) (f g : ℕ → Bool) → ((i : ℕ) → i < n → f i ≡ g i) → count_below n f ≡ count_below n g
unfolding count_below
count-ext zero f g e = refl
count-ext (suc n) f g e =
    count-suc n f ∙ ap₂ (λ (a b : ℕ). a + b) (count-ext n f g (λ i h. e i (omega arith))) (ap num (e n (omega arith))) ∙ sym (count-suc n g)

pub count-below-le : (n : ℕ) (f : ℕ → Bool) → count_below n f ≤ n
unfolding count_below
count-below-le zero f = omega arith
count-below-le (suc n) f = omega (arith, count-suc n f, count-below-le n f, num-le (f n))

-- the first of them, and the others
count-front : (n : ℕ) (f : ℕ → Bool) → count_below (suc n) f ≡ num (f 0) + count_below n (λ i. f (suc i))
unfolding count_below
count-front zero f = count-suc 0 f ∙ zero-add (num (f 0)) ∙ sym (add-zero (num (f 0)))
count-front (suc n) f = omega (arith, count-suc (suc n) f, count-front n f, count-suc n (λ i. f (suc i)))

-- the first a of them, and the others
pub count_add : (a b : ℕ) (f : ℕ → Bool) → count_below (a + b) f ≡ count_below a f + count_below b (λ i. f (a + i))
unfolding count_below
count_add a zero f = ap (λ (n : ℕ). count_below n f) (add-zero a) ∙ sym (add-zero (count_below a f))
count_add a (suc b) f =
    ap (λ (n : ℕ). count_below n f) (add-suc a b) ∙ omega (arith, count-suc (a + b) f, count_add a b f, count-suc b (λ i. f (a + i)))

-- none from n on
pub count-rest : (n m : ℕ) (f : ℕ → Bool) → n ≤ m → ((i : ℕ) → n ≤ i → i < m → f i ≡ false) → count_below m f ≡ count_below n f
count-rest n zero f l e = ap (λ (k : ℕ). count_below k f) (let z : 0 ≡ n = omega arith in z)
count-rest n (suc m) f l e = ⊎_elim
    (λ q. ap (λ (k : ℕ). count_below k f) (sym q))
    (λ h. count-suc m f ∙ ap (λ (b : Bool). count_below m f + num b) (e m (omega arith) (omega arith)) ∙ add-zero (count_below m f)
    ∙ count-rest n m f (omega arith) (λ i a b. e i a (omega arith)))
    (eq-or-lt_of_le l)

-- the number x is met once below n
count-once : (x n : ℕ) → x < n → count_below n (eqb x) ≡ 1
unfolding count_below
count-once x n l =
    let rest = sum-none (λ g. if eqb g x then 0 otherwise (if eqb x g then 1 otherwise 0)) (below n) (λ g m. other g (ℕ_discrete g x)) in
    count-sum (eqb x) (below n) ∙ sum-split (λ g. if eqb x g then 1 otherwise 0) x n l ∙ omega (arith, rest, ap num (eq-eqb x x refl))
  where
    other : (g : ℕ) → Dec (g ≡ x) → ◌≡◌ {A = ℕ} (if eqb g x then 0 otherwise (if eqb x g then 1 otherwise 0)) 0
    other g (yes e) = ap (λ (b : Bool). if b then 0 otherwise (if eqb x g then 1 otherwise 0)) (eq-eqb g x e)
    other g (no n) = ap₂ (λ (a b : Bool). if a then 0 otherwise (if b then 1 otherwise 0)) (ne_eqb g x n) (ne_eqb x g (λ e. n (sym e)))

-- where the numbers that pass have places below n, each its own, as many places are taken as numbers pass
pub count-places : (f : ℕ → Bool) (place : ℕ → ℕ) (n m : ℕ) → ((q : ℕ) → q < m → f q ≡ true → place q < n)
    → ((q r : ℕ) → q < m → r < m → f q ≡ true → f r ≡ true → place q ≡ place r → q ≡ r)
    → count_below n (λ g. any_below m (λ q. f q && eqb (place q) g)) ≡ count_below m f
unfolding count_below any_below
count-places f place n zero few own = count-rest 0 n (λ g. any_below 0 (λ q. f q && eqb (place q) g)) (omega arith) (λ g a l. refl)
count-places f place n (suc m) few own =
    count-ext n (λ g. any_below (suc m) (λ q. f q && eqb (place q) g)) (λ g. taken g || (f m && eqb (place m) g)) (λ g l. any-suc m (λ q. f q && eqb (place q) g))
    ∙ go (count-places f place n m (λ q l on. few q (omega arith) on) (λ q r l k on o. own q r (omega arith) (omega arith) on o)) (f m) refl ∙ sym (count-suc m f)
  where
    taken : ℕ → Bool
    taken g = any_below m (λ q. f q && eqb (place q) g)

    go : count_below n taken ≡ count_below m f → (b : Bool) → f m ≡ b → count_below n (λ g. taken g || (b && eqb (place m) g)) ≡ count_below m f + num (f m)
    go before false off = count-ext n (λ g. taken g || false) taken (λ g l. or-false (taken g)) ∙ omega (arith, before, ap num off)
    go before true on =
        list-or taken (eqb (place m)) (below n) (λ g a b. apart g a (eqb-true (place m) g b))
        ∙ omega (arith, before, count-once (place m) n (few m (omega arith) on), ap num on)
      where
        apart : (g : ℕ) → taken g ≡ true → place m ≡ g → ⊥
        apart g a at =
            let r = any-find m (λ q. f q && eqb (place q) g) a in
            let s = parts (f r.0) (eqb (place r.0) g) r.2 in
            let same = own r.0 m (omega (arith, r.1)) (omega arith) s.0 on (eqb-true (place r.0) g s.1 ∙ sym at) in
            omega (arith, same, r.1)

-- ---- the ones of a word

digit : (x : ℕ) → x < 2 → x ≡ num (eqb x 1)
digit zero h = refl
digit (suc zero) h = refl
digit (suc (suc x)) h = absurd (omega arith)

-- what `count_ones` gives is the number of bits that are set
pub ones-count : (k w : ℕ) → w < 2 ^ k → ones w ≡ count_below k (bit w)
unfolding odd ones count_below
ones-count zero w h = ap ones (lt-one h)
ones-count (suc k) w h =
    ones_step w
    ∙ ap₂ (λ (a b : ℕ). a + b) (digit (w % 2) (omega arith) ∙ ap num (sym (bit-zero w)))
    (ones-count k (w / 2) (shr_lt k 1 (rw add-one h)) ∙ count-ext k (bit (w / 2)) (λ i. bit w (suc i)) (λ i l. sym (bit-suc w i)))
    ∙ sym (count-front k (bit w))

-- word j of a set of numbers
word_count : (m : List ℕ) (j : ℕ) → count_below 64 (λ i. member m (64 * j + i)) ≡ count_below 64 (bit (get_or m j 0))
unfolding member
word_count m j =
    count-ext 64 (λ i. member m (64 * j + i)) (bit (get_or m j 0))
    (λ i l. let d : (64 * j + i) / 64 ≡ j = omega arith in let r : (64 * j + i) % 64 ≡ i = omega arith in
    ap₂ (λ (x y : ℕ). bit (get_or m x 0) y) d r)

-- the counts of one word more
pub words_more : (m : List ℕ) (n : ℕ) → count_below (64 * (n + 1)) (member m) ≡ count_below (64 * n) (member m) + count_below 64 (bit (get_or m n 0))
words_more m n =
    let e : 64 * (n + 1) ≡ 64 * n + 64 = omega arith in
    ap (λ (k : ℕ). count_below k (member m)) e ∙ count_add (64 * n) 64 (member m) ∙ ap (λ (k : ℕ). count_below (64 * n) (member m) + k) (word_count m n)
