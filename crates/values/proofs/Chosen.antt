-- Numbers that are there, from a position on. Assumes nothing.
use Prim.Native.Nat.{ℕ, zero, suc, ◌+◌, ◌-◌, ◌≤◌, ◌<◌}
use native.Mathlib.Omega.{arith}
use native.Mathlib.Numerals.{add-one}
use mathlib.Core.Path.{◌≡◌, refl, sym, ap, ap₂, ◌∙◌}
use mathlib.Core.Bool.{Bool, true, false}
use mathlib.Core.List.{List, [], ◌∷◌}
use Rattle.model.specs.Notation.{map, filter}
use Rattle.text.specs.declared.Words.{Words}
use Rattle.std.specs.Prelude.{Option, Some, None}
use Rattle.values.specs.declared.Found.{Found}
use Rattle.values.specs.Operands.{up_from, chosen, First, Finds, found_by, onward}

pub filter-keep : {A : Type 0} (p : A → Bool) (x : A) (xs : List A) → p x ≡ true → filter p (x ∷ xs) ≡ x ∷ filter p xs
filter-keep {A} p x xs e = ap (λ (t : Bool). elim t as (λ _. List A) [ true ↦ x ∷ filter p xs | false ↦ filter p xs ]) e

pub filter-drop : {A : Type 0} (p : A → Bool) (x : A) (xs : List A) → p x ≡ false → filter p (x ∷ xs) ≡ filter p xs
filter-drop {A} p x xs e = ap (λ (t : Bool). elim t as (λ _. List A) [ true ↦ x ∷ filter p xs | false ↦ filter p xs ]) e

-- what was found, or not
module _ {from : ℕ → List Words} {i : ℕ} {r : Option Found} (finds : Finds from i r) where
  pub found-none : r ≡ None → from i ≡ []
  found-none e = finds.so ∙ ap (λ (r : Option Found). onward r from) e

  pub found_some : {f : Found} → r ≡ Some f → from i ≡ f.words ∷ from f.next
  found_some e = finds.so ∙ ap (λ (r : Option Found). onward r from) e

-- the same values from every position on
pub finds-by : (f g : ℕ → List Words) → ((i : ℕ) → f i ≡ g i) → (i : ℕ) (r : Option Found) → Finds g i r → Finds f i r
finds-by f g e i r s = record { so = e i ∙ s.so ∙ go r }
  where
    go : (r : Option Found) → onward r g ≡ onward r f
    go None = refl
    go (Some x) = ap (λ (l : List Words). x.words ∷ l) (sym (e x.next))

module _ (here : ℕ → Bool) where
  skip : (d i n : ℕ) → d ≤ n → ((j : ℕ) → i ≤ j → j < i + d → here j ≡ false) → filter here (up_from i n) ≡ filter here (up_from (i + d) (n - d))
  skip zero i n h f =
      let e : i ≡ i + 0 = omega arith in
      let m : n ≡ n - 0 = omega arith in
      ap₂ (λ (k l : ℕ). filter here (up_from k l)) e m
  skip (suc d) i zero h f = absurd (omega arith)
  skip (suc d) i (suc n) h f =
      let e : suc i + d ≡ i + suc d = omega arith in
      let m : n - d ≡ suc n - suc d = omega arith in
      filter-drop here i (up_from (suc i) n) (f i (omega arith) (omega arith))
      ∙ skip d (suc i) n (omega arith) (λ j a b. f j (omega arith) (omega arith))
      ∙ ap₂ (λ (k l : ℕ). filter here (up_from k l)) e m

  module _ (value : ℕ → Words) (top i : ℕ) where
    chosen-next : (r : ℕ) → First here top i (Some r) → chosen here value top i ≡ value r ∷ chosen here value top (r + 1)
    unfolding chosen
    chosen-next r first =
        let (l, h, t) = first.held in
        let a : i + (r - i) ≡ r = omega arith in
        let b : top - i - (r - i) ≡ suc (top - suc r) = omega arith in
        ap (map value)
        (skip (r - i) i (top - i) (omega arith) (λ j m n. first.lower j m (omega arith))
        ∙ ap₂ (λ (k n : ℕ). filter here (up_from k n)) a b
        ∙ filter-keep here r (up_from (suc r) (top - suc r)) t)
        ∙ ap (λ (k : ℕ). value r ∷ map value (filter here (up_from k (top - k)))) (sym (add-one r))

    chosen_none : First here top i None → chosen here value top i ≡ []
    unfolding chosen
    chosen_none first =
        let z : top - i - (top - i) ≡ 0 = omega arith in
        ap (map value)
        (skip (top - i) i (top - i) (omega arith) (λ j m n. first.lower j m (omega arith))
        ∙ ap (λ (n : ℕ). filter here (up_from (i + (top - i)) n)) z)

    pub finds-first : (r : Option ℕ) → First here top i r → Finds (chosen here value top) i (found_by value r)
    finds-first None first = record { so = chosen_none first }
    finds-first (Some r) first = record { so = chosen-next r first }
