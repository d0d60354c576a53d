-- Some value of a list is below some value of another exactly if the least is below the greatest. Assumes nothing.
use Prim.Native.Nat.{ℕ, ◌≤◌, ◌<◌}
use native.Mathlib.Omega.{arith}
use native.Mathlib.Decide.{dec_lt}
use mathlib.Core.Path.{◌≡◌, refl, sym, ap, subst, ◌∙◌}
use mathlib.Core.Logic.{◌⊎◌, inl, inr}
use mathlib.Core.Bool.{Bool, true, false}
use mathlib.Core.List.Memᴰ.{head as here}
use mathlib.Core.List.Memᴰ.{tail as there}
use mathlib.Core.List.{List, [], ◌∷◌}
use lib.Dec.{leb, ltb}
use borrow.Author.Tests.{lt-ltb, le-ltb, ltb-true, le-leb, leb-true}
use Rattle.model.specs.Notation.{any_of, if◌then◌otherwise◌}
use Rattle.model.specs.Limits.{largest_int}
use Rattle.model.proofs.Lists.{◌∈◌, any-in, in-any, same_truth}
use Rattle.text.specs.declared.Words.{Words}
use Rattle.values.specs.Compared.{further, extreme_from, worst, greatest_of, least_of, least_below_greatest}

-- one step: the greatest or the least of what was seen and one value more
further-cases : (greatest : Bool) (a b : ℕ) → (further greatest a b ≡ a) ⊎ (further greatest a b ≡ b)
unfolding further
further-cases true a b = go (ltb a b)
  where
    go : (t : Bool) → ((if t then b otherwise a) ≡ a) ⊎ ((if t then b otherwise a) ≡ b)
    go true = inr refl
    go false = inl refl
further-cases false a b = go (ltb b a)
  where
    go : (t : Bool) → ((if t then b otherwise a) ≡ a) ⊎ ((if t then b otherwise a) ≡ b)
    go true = inr refl
    go false = inl refl

-- y is no less far than x
abbrev Reaches : Bool → ℕ → ℕ → Type 0
Reaches true x y = x ≤ y
Reaches false x y = y ≤ x

reaches_same : (greatest : Bool) (x : ℕ) → Reaches greatest x x
reaches_same true x = omega arith
reaches_same false x = omega arith

reaches-on : (greatest : Bool) (x y z : ℕ) → Reaches greatest x y → Reaches greatest y z → Reaches greatest x z
reaches-on true x y z p q = omega arith
reaches-on false x y z p q = omega arith

reaches-both : (greatest : Bool) (x y : ℕ) → Reaches greatest x y → Reaches greatest y x → y ≡ x
reaches-both true x y p q = omega arith
reaches-both false x y p q = omega arith

further-reaches : (greatest : Bool) (a b : ℕ) → Reaches greatest a (further greatest a b) × Reaches greatest b (further greatest a b)
unfolding further
further-reaches true a b = go (dec_lt a b)
  where
    go : Dec (a < b) → (a ≤ (if ltb a b then b otherwise a)) × (b ≤ (if ltb a b then b otherwise a))
    go (yes h) = rw (lt-ltb a b h) (omega arith, omega arith)
    go (no h) = let l : b ≤ a = omega arith in rw (le-ltb a b l) (omega arith, omega arith)
further-reaches false a b = go (dec_lt b a)
  where
    go : Dec (b < a) → ((if ltb b a then b otherwise a) ≤ a) × ((if ltb b a then b otherwise a) ≤ b)
    go (yes h) = rw (lt-ltb b a h) (omega arith, omega arith)
    go (no h) = let l : a ≤ b = omega arith in rw (le-ltb b a l) (omega arith, omega arith)

-- the result is what was there before or one of the values
extreme-in : (greatest : Bool) (best : ℕ) (l : List Words) → (extreme_from greatest best l ≡ best) ⊎ ((w : Words) × (w ∈ l) × (extreme_from greatest best l ≡ w.first))
unfolding extreme_from
extreme-in greatest best [] = inl refl
extreme-in greatest best (w ∷ l) = go (extreme-in greatest (further greatest best w.first) l) (further-cases greatest best w.first)
  where
    go : (extreme_from greatest (further greatest best w.first) l ≡ further greatest best w.first)
        ⊎ ((x : Words) × (x ∈ l) × (extreme_from greatest (further greatest best w.first) l ≡ x.first))
        → (further greatest best w.first ≡ best) ⊎ (further greatest best w.first ≡ w.first)
        → (extreme_from greatest (further greatest best w.first) l ≡ best)
        ⊎ ((x : Words) × (x ∈ (w ∷ l)) × (extreme_from greatest (further greatest best w.first) l ≡ x.first))
    go (inl e) (inl f) = inl (e ∙ f)
    go (inl e) (inr f) = inr (w, here refl, e ∙ f)
    go (inr (x, m, e)) f = inr (x, there m, e)

-- none of the values is further
extreme-reaches : (greatest : Bool) (best : ℕ) (l : List Words) → Reaches greatest best (extreme_from greatest best l)
unfolding extreme_from
extreme-reaches greatest best [] = reaches_same greatest best
extreme-reaches greatest best (w ∷ l) =
    let next = further greatest best w.first in
    reaches-on greatest best next (extreme_from greatest next l) (further-reaches greatest best w.first).0 (extreme-reaches greatest next l)

none-further : (greatest : Bool) {w : Words} (best : ℕ) {l : List Words} → w ∈ l → Reaches greatest w.first (extreme_from greatest best l)
unfolding extreme_from
none-further greatest best (here {x = y} {xs = l} e) =
    let next = further greatest best y.first in
    subst (λ (v : Words). Reaches greatest v.first (extreme_from greatest next l)) (sym e)
    (reaches-on greatest y.first next (extreme_from greatest next l) (further-reaches greatest best y.first).1 (extreme-reaches greatest next l))
none-further greatest best (there {x = y} {xs = l} m) = none-further greatest (further greatest best y.first) m

-- so the greatest and the least of present ints are among them
extreme-met : (greatest : Bool) (v : Words) (l : List Words) → Reaches greatest (worst greatest) v.first
    → (w : Words) × (w ∈ (v ∷ l)) × (extreme_from greatest (worst greatest) (v ∷ l) ≡ w.first)
extreme-met greatest v l b = go (extreme-in greatest (worst greatest) (v ∷ l))
  where
    far : ℕ
    far = extreme_from greatest (worst greatest) (v ∷ l)

    go : (far ≡ worst greatest) ⊎ ((w : Words) × (w ∈ (v ∷ l)) × (far ≡ w.first)) → (w : Words) × (w ∈ (v ∷ l)) × (far ≡ w.first)
    go (inl e) =
        (v, here refl, reaches-both greatest v.first far (none-further greatest (worst greatest) (here refl)) (subst (λ (x : ℕ). Reaches greatest x v.first) (sym e) b))
    go (inr x) = x

-- "some left and some right value are so ordered"
abbrev pub some_before : (ℕ → ℕ → Bool) → List Words → List Words → Bool
some_before before low high = any_of (λ a. any_of (λ b. before a.first b.first) high) low

module _ (before : ℕ → ℕ → Bool) (wider : (a b x y : ℕ) → x ≤ a → b ≤ y → before a b ≡ true → before x y ≡ true)
    (v : Words) (low : List Words) (w : Words) (high : List Words) (small : v.first ≤ largest_int) where
  ordered-ends : before (least_of (v ∷ low)) (greatest_of (w ∷ high)) ≡ some_before before (v ∷ low) (w ∷ high)
  ordered-ends =
      same_truth (before (least_of (v ∷ low)) (greatest_of (w ∷ high))) (some_before before (v ∷ low) (w ∷ high))
      (λ e.
      let (a, m, p) = extreme-met false v low small in
      let (b, n, q) = extreme-met true w high (omega arith) in
      in-any (λ a. any_of (λ b. before a.first b.first) (w ∷ high)) m
      (in-any (λ b. before a.first b.first) n (sym (ap (λ (x : ℕ). before x b.first) p) ∙ sym (ap (before (least_of (v ∷ low))) q) ∙ e)))
      (λ e.
      let (a, m, p) = any-in (λ a. any_of (λ b. before a.first b.first) (w ∷ high)) (v ∷ low) e in
      let (b, n, q) = any-in (λ b. before a.first b.first) (w ∷ high) p in
      wider a.first b.first (least_of (v ∷ low)) (greatest_of (w ∷ high)) (none-further false largest_int m) (none-further true 0 n) q)

-- the two orders
pub below-so : (v : Words) (low : List Words) (w : Words) (high : List Words) → v.first ≤ largest_int
    → least_below_greatest false (v ∷ low) (w ∷ high) ≡ some_before (λ a b. ltb a b) (v ∷ low) (w ∷ high)
unfolding least_below_greatest
below-so v low w high s =
    ordered-ends (λ a b. ltb a b) (λ a b x y p q e. let h = ltb-true a b e in lt-ltb x y (omega arith)) v low w high s

pub not-above-so : (v : Words) (low : List Words) (w : Words) (high : List Words) → v.first ≤ largest_int
    → least_below_greatest true (v ∷ low) (w ∷ high) ≡ some_before (λ a b. leb a b) (v ∷ low) (w ∷ high)
unfolding least_below_greatest
not-above-so v low w high s =
    ordered-ends (λ a b. leb a b) (λ a b x y p q e. let h = leb-true a b e in le-leb x y (omega arith)) v low w high s
