-- Lists whose elements have numbers that rise: what is found by its number, one more, one less, and counting. Assumes nothing.
use Prim.Native.Nat.{ℕ, zero, suc, ◌+◌, ◌≤◌, ◌<◌}
use mathlib.Core.Path.{◌≡◌, refl, sym, ap, ◌∙◌}
use mathlib.Core.Bool.{Bool, true, false}
use mathlib.Core.List.Memᴰ
use mathlib.Core.List.Memᴰ.{head as here}
use mathlib.Core.List.Memᴰ.{tail as there}
use mathlib.Core.List.{List, [], ◌∷◌, ◌++◌}
use mathlib.Core.Option.{Option, none, some, some-injective}
use native.Mathlib.Decide.{ℕ_discrete}
use native.Mathlib.Omega.{arith}
use lib.ListN.{length, length-append}
use lib.Dec.{eqb, ltb}
use borrow.Author.Tests.{eq-eqb, ne_eqb, eqb-true, eqb-false, ltb-true, ltb-false, lt-ltb, le-ltb}
use Rattle.model.specs.Notation.{if◌then◌otherwise◌, all_of, count_of, sum_of, find, inserted, map, each, listed, below}
use Rattle.model.specs.Standing.{rising}
use Rattle.model.proofs.WordTables.{none-is-some}
use Rattle.model.proofs.Options.{parts, both}
use Rattle.model.proofs.Lists.{◌∈◌, all-parts, all_in, all_cons, all-by, in_map, in-below}
use Rattle.model.proofs.Sums.{sum-last, sum-ext, sum-none, count-sum}

-- ---- the first that passes

module _ {A : Type 0} (p : A → Bool) where
  pub find-in : (xs : List A) (x : A) → find p xs ≡ some x → (x ∈ xs) × (p x ≡ true)
  find-in [] x e = none-is-some e
  find-in (y ∷ ys) x e = go (p y) refl e (find-in ys x)
    where
      go : (b : Bool) → p y ≡ b → (if b then some y otherwise find p ys) ≡ some x
          → (find p ys ≡ some x → (x ∈ ys) × (p x ≡ true)) → (x ∈ y ∷ ys) × (p x ≡ true)
      go true f g more = let z : y ≡ x = some-injective y x g in (here (sym z), ap p (sym z) ∙ f)
      go false f g more = let r = more g in (there r.0, r.1)

  pub find_none : (xs : List A) {x : A} → find p xs ≡ none → x ∈ xs → p x ≡ false
  find_none [] e m = elim m [ ]
  find_none (y ∷ ys) {x} e m = go (p y) refl e m (λ f n. find_none ys f n)
    where
      go : (b : Bool) → p y ≡ b → (if b then some y otherwise find p ys) ≡ none → x ∈ y ∷ ys
          → (find p ys ≡ none → x ∈ ys → p x ≡ false) → p x ≡ false
      go true f g m more = none-is-some (sym g)
      go false f g (here z) more = ap p z ∙ f
      go false f g (there m) more = more g m

-- ---- by number

module _ {A : Type 0} (number : A → ℕ) where
  abbrev has : ℕ → A → Bool
  has k x = eqb (number x) k

  pub found_number : (xs : List A) (k : ℕ) (x : A) → find (has k) xs ≡ some x → (x ∈ xs) × (number x ≡ k)
  found_number xs k x e = let r = find-in (has k) xs x e in (r.0, eqb-true (number x) k r.1)

  -- where numbers rise, each is found by its own
  pub number-found : (xs : List A) {x : A} → rising number xs ≡ true → x ∈ xs → find (has (number x)) xs ≡ some x
  number-found [] e m = elim m [ ]
  number-found (y ∷ ys) {x} e (here z) = rw (eq-eqb (number y) (number x) (ap number (sym z)), z)
  number-found (y ∷ ys) {x} e (there m) =
      let (above, rest) = parts (all_of (λ z. ltb (number y) (number z)) ys) (rising number ys) e in
      let l = ltb-true (number y) (number x) (all_in (λ z. ltb (number y) (number z)) ys above m) in
      rw (ne_eqb (number y) (number x) (λ z. omega arith)) (number-found ys rest m)

  -- ---- one more

  module _ (x : A) where
    pub find-inserted : (xs : List A) → find (has (number x)) xs ≡ none → (k : ℕ)
        → find (has k) (inserted number x xs) ≡ (if eqb (number x) k then some x otherwise find (has k) xs)
    find-inserted [] new k = refl
    find-inserted (y ∷ ys) new k = go (ltb (number x) (number y)) (eqb (number y) (number x)) refl new (λ f. find-inserted ys f k)
      where
        go : (b c : Bool) → eqb (number y) (number x) ≡ c → (if c then some y otherwise find (has (number x)) ys) ≡ none
            → (find (has (number x)) ys ≡ none → find (has k) (inserted number x ys) ≡ (if eqb (number x) k then some x otherwise find (has k) ys))
            → find (has k) (if b then x ∷ y ∷ ys otherwise y ∷ inserted number x ys) ≡ (if eqb (number x) k then some x otherwise find (has k) (y ∷ ys))
        go true c f g more = refl
        go false true f g more = none-is-some (sym g)
        go false false f g more = by (eqb (number y) k) (eqb (number x) k) refl refl (more g)
          where
            by : (a b : Bool) → eqb (number y) k ≡ a → eqb (number x) k ≡ b
                → find (has k) (inserted number x ys) ≡ (if b then some x otherwise find (has k) ys)
                → (if a then some y otherwise find (has k) (inserted number x ys)) ≡ (if b then some x otherwise (if a then some y otherwise find (has k) ys))
            by true true u v w = absurd (eqb-false (number y) (number x) f (eqb-true (number y) k u ∙ sym (eqb-true (number x) k v)))
            by true false u v w = refl
            by false b u v w = w

    pub length_inserted : (xs : List A) → length (inserted number x xs) ≡ suc (length xs)
    length_inserted [] = refl
    length_inserted (y ∷ ys) = go (ltb (number x) (number y)) (length_inserted ys)
      where
        go : (b : Bool) → length (inserted number x ys) ≡ suc (length ys) → length (if b then x ∷ y ∷ ys otherwise y ∷ inserted number x ys) ≡ suc (suc (length ys))
        go true more = refl
        go false more = ap suc more

    pub count-inserted : (p : A → Bool) (xs : List A) → count_of p (inserted number x xs) ≡ count_of p xs + (if p x then 1 otherwise 0)
    count-inserted p [] = go (p x)
      where
        go : (b : Bool) → (if b then 1 otherwise 0) ≡ 0 + (if b then 1 otherwise 0)
        go true = refl
        go false = refl
    count-inserted p (y ∷ ys) = go (ltb (number x) (number y)) (p x) (p y) refl refl (count-inserted p ys)
      where
        go : (b c d : Bool) → p x ≡ c → p y ≡ d → count_of p (inserted number x ys) ≡ count_of p ys + (if p x then 1 otherwise 0)
            → count_of p (if b then x ∷ y ∷ ys otherwise y ∷ inserted number x ys) ≡ count_of p (y ∷ ys) + (if p x then 1 otherwise 0)
        go true true true u v w = rw (u, v) (omega arith)
        go true true false u v w = rw (u, v) (omega arith)
        go true false true u v w = rw (u, v) (omega arith)
        go true false false u v w = rw (u, v) (omega arith)
        go false c true u v w = rw v (omega (arith, w))
        go false c false u v w = rw v w

    all_inserted : (q : A → Bool) (xs : List A) → q x ≡ true → all_of q xs ≡ true → all_of q (inserted number x xs) ≡ true
    all_inserted q [] e f = all_cons q x [] e refl
    all_inserted q (y ∷ ys) e f = go (ltb (number x) (number y)) (all_inserted q ys e)
      where
        go : (b : Bool) → (all_of q ys ≡ true → all_of q (inserted number x ys) ≡ true) → all_of q (if b then x ∷ y ∷ ys otherwise y ∷ inserted number x ys) ≡ true
        go true more = all_cons q x (y ∷ ys) e f
        go false more = let (a, b) = all-parts q y ys f in all_cons q y (inserted number x ys) a (more b)

    pub rising-inserted : (xs : List A) → rising number xs ≡ true → find (has (number x)) xs ≡ none → rising number (inserted number x xs) ≡ true
    rising-inserted [] r new = refl
    rising-inserted (y ∷ ys) r new = go (ltb (number x) (number y)) (eqb (number y) (number x)) refl refl new (rising-inserted ys)
      where
        above : all_of (λ z. ltb (number y) (number z)) ys ≡ true
        above = (parts (all_of (λ z. ltb (number y) (number z)) ys) (rising number ys) r).0

        rest : rising number ys ≡ true
        rest = (parts (all_of (λ z. ltb (number y) (number z)) ys) (rising number ys) r).1

        go : (b c : Bool) → ltb (number x) (number y) ≡ b → eqb (number y) (number x) ≡ c
            → (if c then some y otherwise find (has (number x)) ys) ≡ none
            → (rising number ys ≡ true → find (has (number x)) ys ≡ none → rising number (inserted number x ys) ≡ true)
            → rising number (if b then x ∷ y ∷ ys otherwise y ∷ inserted number x ys) ≡ true
        go true c u v g more =
            both
            (all_cons (λ z. ltb (number x) (number z)) y ys u
            (all-by (λ z. ltb (number y) (number z)) (λ z. ltb (number x) (number z)) (λ z f. lt-ltb (number x) (number z) (omega (arith, ltb-true (number x) (number y) u, ltb-true (number y) (number z) f))) ys above))
            r
        go false true u v g more = none-is-some (sym g)
        go false false u v g more =
            let n = eqb-false (number y) (number x) v in
            both (all_inserted (λ z. ltb (number y) (number z)) ys (lt-ltb (number y) (number x) (strict (ltb-false (number x) (number y) u) n)) above) (more rest g)
          where
            strict : {a b : ℕ} → a ≤ b → (a ≡ b → ⊥) → a < b
            strict {a} {b} l n = near (ℕ_discrete a b)
              where
                near : Dec (a ≡ b) → a < b
                near (yes e) = absurd (n e)
                near (no e) = omega arith

pub length-map : {A B : Type 0} (f : A → B) (xs : List A) → length (map f xs) ≡ length xs
length-map f [] = refl
length-map f (x ∷ xs) = ap suc (length-map f xs)

-- ---- sums and counts by numbers

-- one number of those below n taken by itself
pub sum-split : (w : ℕ → ℕ) (x n : ℕ) → x < n → sum_of w (below n) ≡ w x + sum_of (λ k. if eqb k x then 0 otherwise w k) (below n)
sum-split w x zero l = absurd (omega arith)
sum-split w x (suc n) l = go (ℕ_discrete x n) (sum-split w x n)
  where
    others : ℕ → ℕ
    others k = if eqb k x then 0 otherwise w k

    last : sum_of w (below n ++ n ∷ []) ≡ sum_of w (below n) + w n
    last = sum-last w (below n) n

    last-other : sum_of others (below n ++ n ∷ []) ≡ sum_of others (below n) + others n
    last-other = sum-last others (below n) n

    go : Dec (x ≡ n) → (x < n → sum_of w (below n) ≡ w x + sum_of others (below n)) → sum_of w (below n ++ n ∷ []) ≡ w x + sum_of others (below n ++ n ∷ [])
    go (yes z) rest =
        let off : others n ≡ 0 = ap (λ (b : Bool). if b then 0 otherwise w n) (eq-eqb n x (sym z)) in
        let same : sum_of w (below n) ≡ sum_of others (below n) =
        sum-ext w others (below n) (λ k m. ap (λ (b : Bool). if b then 0 otherwise w k) (sym (ne_eqb k x (λ e. let f = in-below n m in omega arith)))) in
        omega (arith, last, last-other, off, same, ap w z)
    go (no z) rest =
        let on : others n ≡ w n = ap (λ (b : Bool). if b then 0 otherwise w n) (ne_eqb n x (λ e. z (sym e))) in
        omega (arith, last, last-other, on, rest (omega arith))

module _ {A : Type 0} (number : A → ℕ) where
  -- where numbers rise and are below n, the sum over them is that over all below n, if the others give nothing
  pub sum-numbers : (w : ℕ → ℕ) (xs : List A) (n : ℕ) → rising number xs ≡ true → ((k : ℕ) → k ∈ map number xs → k < n)
      → ((k : ℕ) → k < n → (k ∈ map number xs → ⊥) → w k ≡ 0) → sum_of w (map number xs) ≡ sum_of w (below n)
  sum-numbers w [] n r few off = sym (sum-none w (below n) (λ k m. off k (in-below n m) nobody))
    where
      nobody : {k : ℕ} → k ∈ [] → ⊥
      nobody m = elim m [ ]
  sum-numbers w (x ∷ xs) n r few off =
      let (above, rest) = parts (all_of (λ z. ltb (number x) (number z)) xs) (rising number xs) r in
      let more = sum-numbers others xs n rest (λ k m. few k (there m)) (λ k l out. clear k l out (ℕ_discrete k (number x))) in
      let same : sum_of w (map number xs) ≡ sum_of others (map number xs) = sum-ext w others (map number xs) (λ k m. keep k m above) in
      omega (arith, more, same, sum-split w (number x) n (few (number x) (here refl)))
    where
      others : ℕ → ℕ
      others k = if eqb k (number x) then 0 otherwise w k

      clear : (k : ℕ) → k < n → (k ∈ map number xs → ⊥) → Dec (k ≡ number x) → others k ≡ 0
      clear k l out (yes z) = ap (λ (b : Bool). if b then 0 otherwise w k) (eq-eqb k (number x) z)
      clear k l out (no z) = ap (λ (b : Bool). if b then 0 otherwise w k) (ne_eqb k (number x) z) ∙ off k l (λ m. not-here k m z out)
        where
          not-here : (k : ℕ) → k ∈ number x ∷ map number xs → (k ≡ number x → ⊥) → (k ∈ map number xs → ⊥) → ⊥
          not-here k (here e) a b = a e
          not-here k (there m) a b = b m

      keep : (k : ℕ) → k ∈ map number xs → all_of (λ z. ltb (number x) (number z)) xs ≡ true → w k ≡ others k
      keep k m above =
          let (y, i, e) = in_map number xs m in
          let l = ltb-true (number x) (number y) (all_in (λ z. ltb (number x) (number z)) xs above i) in
          ap (λ (b : Bool). if b then 0 otherwise w k) (sym (ne_eqb k (number x) (λ z. omega arith)))

  -- and counting among them is counting below n what only they meet
  pub count-numbers : (p : ℕ → Bool) (xs : List A) (n : ℕ) → rising number xs ≡ true → ((k : ℕ) → k ∈ map number xs → k < n)
      → ((k : ℕ) → k < n → (k ∈ map number xs → ⊥) → p k ≡ false) → count_of p (map number xs) ≡ count_of p (below n)
  count-numbers p xs n r few off =
      count-sum p (map number xs)
      ∙ sum-numbers (λ k. if p k then 1 otherwise 0) xs n r few (λ k l out. ap (λ (b : Bool). if b then 1 otherwise 0) (off k l out)) ∙ sym (count-sum p (below n))

  -- where numbers rise and are below n, there are at most n
  rising-from : (xs : List A) (a n : ℕ) → rising number xs ≡ true → a ≤ n → ((x : A) → x ∈ xs → a ≤ number x) → ((x : A) → x ∈ xs → number x < n) → a + length xs ≤ n
  rising-from [] a n r l low few = omega arith
  rising-from (x ∷ xs) a n r l low few =
      let (above, rest) = parts (all_of (λ z. ltb (number x) (number z)) xs) (rising number xs) r in
      let b = few x (here refl) in
      let c = low x (here refl) in
      let more = rising-from xs (suc (number x)) n rest b (λ y m. ltb-true (number x) (number y) (all_in (λ z. ltb (number x) (number z)) xs above m)) (λ y m. few y (there m)) in
      omega arith

  pub rising-few : (xs : List A) (n : ℕ) → rising number xs ≡ true → ((x : A) → x ∈ xs → number x < n) → length xs ≤ n
  rising-few xs n r few = let l = rising-from xs 0 n r (omega arith) (λ x m. omega arith) few in omega arith

-- ---- the place of a number

module _ {A : Type 0} (number : A → ℕ) where
  -- of a list whose numbers rise: its front, and what comes behind an element
  pub rising-front : (pre rest : List A) → rising number (pre ++ rest) ≡ true → rising number pre ≡ true
  rising-front [] rest r = refl
  rising-front (y ∷ pre) rest r =
      let (above, more) = parts (all_of (λ z. ltb (number y) (number z)) (pre ++ rest)) (rising number (pre ++ rest)) r in
      both (front-all pre above) (rising-front pre rest more)
    where
      front-all : (zs : List A) → all_of (λ z. ltb (number y) (number z)) (zs ++ rest) ≡ true → all_of (λ z. ltb (number y) (number z)) zs ≡ true
      front-all [] e = refl
      front-all (z ∷ zs) e = let (a, b) = all-parts (λ z. ltb (number y) (number z)) z (zs ++ rest) e in all_cons (λ z. ltb (number y) (number z)) z zs a (front-all zs b)

  pub rising-back : (pre rest : List A) → rising number (pre ++ rest) ≡ true → rising number rest ≡ true
  rising-back [] rest r = r
  rising-back (y ∷ pre) rest r = rising-back pre rest (parts (all_of (λ z. ltb (number y) (number z)) (pre ++ rest)) (rising number (pre ++ rest)) r).1

  pub rising-apart : (pre rest : List A) → rising number (pre ++ rest) ≡ true → {x y : A} → x ∈ pre → y ∈ rest → number x < number y
  rising-apart [] rest r {x = x} {y = y} m n = elim m [ ]
  rising-apart (z ∷ pre) rest r {x} {y} (here e) n =
      let (above, more) = parts (all_of (λ u. ltb (number z) (number u)) (pre ++ rest)) (rising number (pre ++ rest)) r in
      omega (arith, ap number e, ltb-true (number z) (number y) (all_in (λ u. ltb (number z) (number u)) (pre ++ rest) above (Memᴰ.append_right pre n)))
  rising-apart (z ∷ pre) rest r (there m) n = rising-apart pre rest (parts (all_of (λ u. ltb (number z) (number u)) (pre ++ rest)) (rising number (pre ++ rest)) r).1 m n

  -- where numbers rise and are below their count, each is its place
  pub number-place : (pre : List A) (x : A) (rest : List A) → rising number (pre ++ x ∷ rest) ≡ true
      → ((y : A) → y ∈ pre ++ x ∷ rest → number y < length (pre ++ x ∷ rest)) → number x ≡ length pre
  number-place pre x rest r few =
      let behind = rising-back pre (x ∷ rest) r in
      let above : (y : A) → y ∈ x ∷ rest → number x ≤ number y = λ y m. from_first (parts (all_of (λ z. ltb (number x) (number z)) rest) (rising number rest) behind).0 m in
      let high = rising-from number (x ∷ rest) (number x) (length (pre ++ x ∷ rest)) behind (omega (arith, few x (Memᴰ.append_right pre (here refl)))) above (λ y m. few y (Memᴰ.append_right pre m)) in
      let low = rising-few number pre (number x) (rising-front pre (x ∷ rest) r) (λ y m. rising-apart pre (x ∷ rest) r m (here refl)) in
      omega (arith, length-append pre (x ∷ rest))
    where
      from_first : {y : A} → all_of (λ z. ltb (number x) (number z)) rest ≡ true → y ∈ x ∷ rest → number x ≤ number y
      from_first e (here z) = omega (arith, ap number z)
      from_first {y} e (there m) = omega (arith, ltb-true (number x) (number y) (all_in (λ z. ltb (number x) (number z)) rest e m))

  -- a number above all others goes to the end
  pub inserted-last : (x : A) (xs : List A) → ((y : A) → y ∈ xs → number y < number x) → inserted number x xs ≡ xs ++ x ∷ []
  inserted-last x [] above = refl
  inserted-last x (y ∷ ys) above =
      rw (le-ltb (number x) (number y) (omega (arith, above y (here refl)))) (ap (λ (l : List A). y ∷ l) (inserted-last x ys (λ z m. above z (there m))))

  -- found by their numbers, one after another, all are there
  pub numbers-listed : (xs : List A) → rising number xs ≡ true → each (λ k. listed (find (λ x. eqb (number x) k) xs)) (map number xs) ≡ xs
  numbers-listed xs r = go xs (λ x m. number-found number xs r m)
    where
      go : (ys : List A) → ((y : A) → y ∈ ys → find (λ x. eqb (number x) (number y)) xs ≡ some y) → each (λ k. listed (find (λ x. eqb (number x) k) xs)) (map number ys) ≡ ys
      go [] f = refl
      go (y ∷ ys) f =
          ap (λ (o : Option A). listed o ++ each (λ k. listed (find (λ x. eqb (number x) k) xs)) (map number ys)) (f y (here refl))
          ∙ ap (λ (l : List A). y ∷ l) (go ys (λ z m. f z (there m)))
