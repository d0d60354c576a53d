-- Answers printed: the parts of a line laid one behind the other, and how long it is at most. Assumes nothing.
use Prim.Native.Nat.{ℕ, ◌+◌, ◌≤◌}
use mathlib.Core.List.{[], ◌∷◌, ◌++◌}
use native.Mathlib.Omega.{arith}
use lib.ListN.{length}
use Rattle.model.specs.Bytes.{Bytes}
use Rattle.model.specs.Atoms.{decimal}
use Rattle.output.specs.Laid.{Laid, most_digits}
use Rattle.output.proofs.Laying.{laid_on}
use Rattle.printing.specs.Printing.{PrintedAt, numbers_behind, number_line}

-- a number's digits are laid
abbrev Number : Bytes → ℕ → ℕ → Bytes → ℕ → Type 0
Number before at n after r = Laid before at (decimal n) after r × (r ≤ at + most_digits)

module _ {before : Bytes} {at : ℕ} {text out₁ : Bytes} {a : ℕ} (p : Laid before at text out₁ a) (n : ℕ) {out₂ : Bytes} {b : ℕ} (q : Number out₁ a n out₂ b) where
  pub number-printed : {out₃ : Bytes} {r : ℕ} → Laid out₂ b (10 ∷ []) out₃ r → length text ≤ 20 → PrintedAt before at (number_line text n) out₃ r
  number-printed end short =
      let all = laid_on (laid_on p q.0) end in
      record { laid = all; short = omega (arith, p.behind, q.1, end.behind, all.behind) }

  pub pair-laid : {out₃ : Bytes} {c : ℕ} (other : ℕ) {out₄ : Bytes} {r : ℕ} → Laid out₂ b (44 ∷ []) out₃ c → Number out₃ c other out₄ r
      → length text ≤ 5 → Laid before at (numbers_behind text n other) out₄ r × (r ≤ at + 26)
  pair-laid other comma s short = (laid_on (laid_on (laid_on p q.0) comma) s.0, omega (arith, p.behind, q.1, comma.behind, s.1))

-- a line that ends behind two numbers, or behind a third
module _ {before : Bytes} {at : ℕ} {text out₁ : Bytes} {a : ℕ} (p : Laid before at text out₁ a × (a ≤ at + 26)) where
  pub pair-printed : {out₂ : Bytes} {r : ℕ} → Laid out₁ a (10 ∷ []) out₂ r → PrintedAt before at (text ++ 10 ∷ []) out₂ r
  pair-printed end = let all = laid_on p.0 end in record { laid = all; short = omega (arith, p.1, end.behind, all.behind) }

  pub triple-printed : {out₂ : Bytes} {b : ℕ} (third : ℕ) {out₃ : Bytes} {c : ℕ} {out₄ : Bytes} {r : ℕ} → Laid out₁ a (44 ∷ []) out₂ b → Number out₂ b third out₃ c
      → Laid out₃ c (10 ∷ []) out₄ r → PrintedAt before at (text ++ 44 ∷ [] ++ decimal third ++ 10 ∷ []) out₄ r
  triple-printed third comma s end =
      let all = laid_on (laid_on (laid_on p.0 comma) s.0) end in
      record { laid = all; short = omega (arith, p.1, comma.behind, s.1, end.behind, all.behind) }
