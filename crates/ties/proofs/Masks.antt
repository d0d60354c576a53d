-- Slots in use and masks over slots. Assumes nothing.
use Prim.Native.Nat.{ℕ, zero, suc, ◌^◌, ◌<◌}
use mathlib.Core.Path.{◌≡◌, refl, sym, ap, ◌∙◌}
use mathlib.Core.Bool.{Bool, true, false, not, ◌&&◌}
use mathlib.Core.List.{List}
use native.Mathlib.Decide.{ℕ_discrete, dec_lt}
use native.Mathlib.Omega.{arith}
use lib.Bits.{bit_and, and_le_l}
use lib.Dec.{eqb, ltb}
use lib.ListN.{get_or, length, get_or-eq_default}
use borrow.Author.Tests.{eq-eqb, ne_eqb, ltb-true, lt-ltb, le-ltb}
use Rattle.model.proofs.Options.{parts}
use Rattle.bits.specs.Bits.{bit, any_below}
use Rattle.bits.proofs.Bits.{same_test, bit-and, bit-none, bit-ext}
use Rattle.bits.proofs.Counts.{any_at, any_none}
use Rattle.ties.specs.TieArrays.{in_use, meets}

pub in-use-no : (n : ℕ) (slots : List ℕ) (q k : ℕ) → k ≡ get_or slots q 0 → k ≡ 0 → false ≡ in_use n slots q
unfolding in_use
in-use-no n slots q k e z = sym (ap (λ (b : Bool). b && ltb (get_or slots q 0) n) (le-ltb 0 (get_or slots q 0) (omega arith)))

pub in-use-by : (n : ℕ) (slots : List ℕ) (q k : ℕ) → k ≡ get_or slots q 0 → (k ≡ 0 → ⊥) → ltb k n ≡ in_use n slots q
unfolding in_use
in-use-by n slots q k e z =
    ap (λ (x : ℕ). ltb x n) e ∙ sym (ap (λ (b : Bool). b && ltb (get_or slots q 0) n) (lt-ltb 0 (get_or slots q 0) (pos (get_or slots q 0) (λ i. z (e ∙ i)))))
  where
    pos : (x : ℕ) → (x ≡ 0 → ⊥) → 0 < x
    pos zero n = absurd (n refl)
    pos (suc x) n = omega arith

-- the number of a slot in use
pub in-use-lt : (n : ℕ) (slots : List ℕ) (q : ℕ) → in_use n slots q ≡ true → (0 < get_or slots q 0) × (get_or slots q 0 < n)
unfolding in_use
in-use-lt n slots q e =
    let s = parts (ltb 0 (get_or slots q 0)) (ltb (get_or slots q 0) n) e in (ltb-true 0 (get_or slots q 0) s.0, ltb-true (get_or slots q 0) n s.1)

-- a slot that has a number is one of the slots
pub numbered-lt : (slots : List ℕ) (q : ℕ) → 0 < get_or slots q 0 → q < length slots
numbered-lt slots q n = go (dec_lt q (length slots))
  where
    go : Dec (q < length slots) → q < length slots
    go (yes l) = l
    go (no p) = absurd (omega (arith, n, get_or-eq_default slots 0 {n = q} (omega arith)))

-- what the code's `a & b != 0` computes
pub meets-by : (a b : ℕ) → a < 2 ^ 64 → not (eqb (bit_and a b) 0) ≡ meets a b
unfolding meets
meets-by a b fit = go (ℕ_discrete (bit_and a b) 0)
  where
    go : Dec (bit_and a b ≡ 0) → not (eqb (bit_and a b) 0) ≡ any_below 64 (λ q. bit a q && bit b q)
    go (yes e) =
        ap not (eq-eqb (bit_and a b) 0 e)
        ∙ sym (any_at 64 (λ q. bit a q && bit b q) (λ q l. sym (bit-and a b q) ∙ ap (λ (w : ℕ). bit w q) e ∙ bit-none q))
    go (no n) = ap not (ne_eqb (bit_and a b) 0 n) ∙ some (any_below 64 (λ q. bit a q && bit b q)) refl
      where
        some : (t : Bool) → any_below 64 (λ q. bit a q && bit b q) ≡ t → true ≡ t
        some true e = refl
        some false e =
            absurd (n (bit-ext 64 (bit_and a b) 0 (omega (arith, and_le_l a b)) (omega arith)
            (λ i l. bit-and a b i ∙ any_none 64 (λ q. bit a q && bit b q) e i l ∙ sym (bit-none i))))

pub eqb-flip : (a b : ℕ) → eqb a b ≡ eqb b a
eqb-flip a b = same_test a b b a sym sym
