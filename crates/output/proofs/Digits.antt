-- The digits of a number, from the last to the first; how many there are. Assumes nothing.
use Prim.Native.Nat.{ℕ, zero, suc, ◌+◌, ◌-◌, ◌*◌, ◌/◌, ◌%◌, ◌^◌, ◌≤◌, ◌<◌}
use mathlib.Core.Path.{◌≡◌, refl, sym, ap, ap₂, ◌∙◌}
use mathlib.Core.Bool.{Bool, true, false}
use mathlib.Core.List.{[], ◌∷◌, ◌++◌}
use native.Mathlib.Omega.{arith}
use native.Mathlib.Nat.{pow-suc}
use borrow.Author.Tests.{ltb-true, ltb-false}
use lib.ListN.{length, get_or, drop, set, length-append, length-drop, length-set}
use lib.Seq.{get_or-set_same, drop-set-lt, drop-cons, append_snoc}
use lib.Dec.{ltb}
use Rattle.model.specs.Bytes.{Bytes}
use Rattle.model.specs.Atoms.{decimal}
use Rattle.model.proofs.Decimals.{decimal-last, decimal-more, length-decimal}
use Rattle.output.specs.Laid.{Digits}

-- a number of two digits or more: its last digit stands behind those of its tenth
pub decimal-tenth : (m : ℕ) → 10 ≤ m → decimal m ≡ decimal (m / 10) ++ (48 + m % 10) ∷ []
decimal-tenth m h =
    let z : m ≡ m / 10 * 10 + m % 10 = omega arith in
    ap decimal z ∙ decimal-more (m / 10) (m % 10) (omega arith) (omega arith)

-- a number below a power of ten
pub decimal-short : (k n : ℕ) → n < 10 ^ suc k → length (decimal n) ≤ suc k
decimal-short zero n h = rw (decimal-last n (omega (arith, pow-suc 10 0))) (omega arith)
decimal-short (suc k) n h = go (ltb n 10) refl (decimal-short k (n / 10))
  where
    go : (t : Bool) → ltb n 10 ≡ t → (n / 10 < 10 ^ suc k → length (decimal (n / 10)) ≤ suc k) → length (decimal n) ≤ suc (suc k)
    go true e f = rw (decimal-last n (ltb-true n 10 e)) (omega arith)
    go false e f =
        let l = f (omega (arith, pow-suc 10 (suc k))) in
        rw (decimal-tenth n (ltb-false n 10 e), length-append) (omega arith)

-- the digits behind those of m stand from i + 1 on in an array of ten
pub record Filling (n : ℕ) (array : Bytes) (m i : ℕ) : Type 0 where
  pub long : length array ≡ 10
  pub within : i < 10
  pub are : decimal n ≡ decimal m ++ drop (i + 1) array

module _ (array : Bytes) (i b : ℕ) (h : i < length array) where
  set_here : drop i (set array i b) ≡ b ∷ drop (i + 1) array
  set_here =
      let l : i < length (set array i b) = simp length-set h in
      let z : suc i ≡ i + 1 = omega arith in
      drop-cons (set array i b) i 0 l ∙ ap (λ (k : ℕ). get_or (set array i b) i 0 ∷ drop k (set array i b)) z ∙ ap₂ (λ (x : ℕ) (s : Bytes). x ∷ s) (get_or-set_same array i b 0 h) (drop-set-lt (i + 1) array i b (omega arith))

module _ (n : ℕ) (array : Bytes) (m i : ℕ) (f : Filling n array m i) where
  -- a number of at most ten digits leaves a place for each
  pub filling-room : n < 10 ^ 10 → 10 ≤ m → 0 < i
  filling-room h k =
      let e = simp (length-append, length-drop) at (ap length f.are) in
      let t = simp length-append at (ap length (decimal-tenth m k)) in
      omega (arith, decimal-short 9 n h, length-decimal (m / 10), f.long)

  pub filling-more : (b : ℕ) → b ≡ 48 + m % 10 → 10 ≤ m → 0 < i → Filling n (set array i b) (m / 10) (i - 1)
  filling-more b e k p =
      let z : i - 1 + 1 ≡ i = omega arith in
      record {
        long = simp length-set f.long;
        within = omega (arith, f.within);
        are = f.are ∙ ap (λ (s : Bytes). s ++ drop (i + 1) array) (decimal-tenth m k) ∙ append_snoc (decimal (m / 10)) (48 + m % 10) (drop (i + 1) array)
            ∙ ap (λ (s : Bytes). decimal (m / 10) ++ s)
            (sym (ap (λ (j : ℕ). drop j (set array i b)) z ∙ set_here array i b (omega (arith, f.long, f.within)) ∙ ap (λ (x : ℕ). x ∷ drop (i + 1) array) e));
      }

  pub filled : (b : ℕ) → b ≡ 48 + m → m < 10 → Digits n (set array i b) i
  filled b e k =
      record {
        long = simp length-set f.long;
        within = f.within;
        are = set_here array i b (omega (arith, f.long, f.within)) ∙ ap (λ (x : ℕ). x ∷ drop (i + 1) array) e
            ∙ ap (λ (s : Bytes). s ++ drop (i + 1) array) (sym (decimal-last m k)) ∙ sym f.are;
      }
