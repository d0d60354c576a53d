-- The places of the parts before and behind a byte. Assumes nothing.
use Rattle.std.proofs.Common.{◌≡◌, refl, ℕ, zero, suc, ◌+◌, ◌-◌, ◌≤◌, [], ◌∷◌, ◌++◌, length, take, drop, arith}
use native.Mathlib.Numerals.{unary_clauses}
use lib.Seq.{take-nil}
use Rattle.std.proofs.Math.Option.{some}
use Rattle.model.specs.Bytes.{Bytes, cut}
use Rattle.model.proofs.Cuts.{cut_parts}

behind : (l r : Bytes) (b : ℕ) → r ≡ drop (length l + 1) (l ++ b ∷ r)
behind [] r b = refl
behind (x ∷ l) r b = simp unary_clauses (simp unary_clauses at (behind l r b))

before : (l r : Bytes) (b : ℕ) → length l + 1 ≤ length (l ++ b ∷ r)
before [] r b = omega arith
before (x ∷ l) r b = omega (arith, before l r b)

-- the second part starts behind the first and the byte
pub cut_within : (b : ℕ) (s : Bytes) (l r : Bytes) → cut b s ≡ some (l, r) → length l + 1 ≤ length s
cut_within b s l r e = let (o, p) = cut_parts b s e in rw p (before l r b)

pub cut_behind : (b : ℕ) (s : Bytes) (l r : Bytes) → cut b s ≡ some (l, r) → r ≡ drop (length l + 1) s
cut_behind b s l r e = let (o, p) = cut_parts b s e in rw p (behind l r b)

-- what stands behind a place of the front is a part of the whole
pub behind-front : (a n : ℕ) (s : Bytes) → drop a (take n s) ≡ take (n - a) (drop a s)
behind-front zero n s = simp unary_clauses
behind-front (suc a) zero s = let z : 0 - suc a ≡ 0 = omega arith in rw z
behind-front (suc a) (suc n) [] = simp take-nil
behind-front (suc a) (suc n) (x ∷ s) = simp unary_clauses (behind-front a n s)
