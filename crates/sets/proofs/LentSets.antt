-- A holder's set that was lent as a part of the table, and is back. Assumes nothing.
use Prim.Native.Nat.{ℕ, ◌+◌, ◌-◌, ◌*◌, ◌/◌, ◌%◌, ◌≤◌, ◌<◌}
use mathlib.Core.Path.{◌≡◌, sym, ap, ◌∙◌}
use mathlib.Core.Bool.{false}
use mathlib.Core.List.{List, ◌++◌}
use native.Mathlib.Decide.{dec_lt}
use native.Mathlib.Omega.{arith}
use lib.ListN.{length, get_or, take, get_or-append, get_or-eq_default}
use lib.Seq.{get_or-take, get_or-drop, get_or-append-add, length-take-le}
use borrow.Rule.Slice.PartMut.{put_mid, post_of, take_put, drop_put}
use Rattle.bits.specs.Bits.{bit, member, holds}
use Rattle.bits.proofs.Bits.{bit-none}

module _ (t s : List ℕ) (k : ℕ) (few : 4 * k + 4 ≤ length t) (long : length s ≡ 4) where
  pub holds-put : (p : ℕ) → p < 256 → holds (put_mid (4 * k) (4 * k + 4 - 4 * k) t s) k p ≡ member s p
  unfolding holds member
  holds-put p h =
      let front : length (take (4 * k) t) ≡ 4 * k = length-take-le (4 * k) t (omega arith) in
      let rest : List ℕ = s ++ post_of (4 * k) (4 * k + 4 - 4 * k) t in
      ap (λ (w : ℕ). bit w (p % 64))
      (ap (λ (n : ℕ). get_or (take (4 * k) t ++ rest) (n + p / 64) 0) (sym front)
      ∙ get_or-append-add (take (4 * k) t) rest (p / 64) 0
      ∙ get_or-append s (post_of (4 * k) (4 * k + 4 - 4 * k) t) 0 (p / 64) (omega arith))

  put-others-by : (j : ℕ) → (j / 4 ≡ k → ⊥) → Dec (j < 4 * k) → get_or (put_mid (4 * k) (4 * k + 4 - 4 * k) t s) j 0 ≡ get_or t j 0
  put-others-by j n (yes h) =
      let u : List ℕ = put_mid (4 * k) (4 * k + 4 - 4 * k) t s in
      sym (get_or-take (4 * k) u j 0 h)
      ∙ ap (λ (l : List ℕ). get_or l j 0) (take_put (4 * k) (4 * k + 4 - 4 * k) t s (omega arith))
      ∙ get_or-take (4 * k) t j 0 h
  put-others-by j n (no h) =
      let u : List ℕ = put_mid (4 * k) (4 * k + 4 - 4 * k) t s in
      let past : 4 * k + 4 + (j - (4 * k + 4)) ≡ j = omega arith in
      ap (λ (i : ℕ). get_or u i 0) (sym past)
      ∙ sym (get_or-drop (4 * k + 4) u (j - (4 * k + 4)) 0)
      ∙ ap (λ (l : List ℕ). get_or l (j - (4 * k + 4)) 0) (drop_put (4 * k) (4 * k + 4) t s (omega arith) (omega arith) (omega arith))
      ∙ get_or-drop (4 * k + 4) t (j - (4 * k + 4)) 0
      ∙ ap (λ (i : ℕ). get_or t i 0) past

  pub put-others : (j : ℕ) → (j / 4 ≡ k → ⊥) → get_or (put_mid (4 * k) (4 * k + 4 - 4 * k) t s) j 0 ≡ get_or t j 0
  put-others j n = put-others-by j n (dec_lt j (4 * k))

-- there is no set past the table's end
pub holds-past : (t : List ℕ) (k p : ℕ) → length t ≤ 4 * k → holds t k p ≡ false
unfolding holds
holds-past t k p h = ap (λ (w : ℕ). bit w (p % 64)) (get_or-eq_default t 0 {n = 4 * k + p / 64} (omega arith)) ∙ bit-none (p % 64)

-- words that stay keep a set
pub holds_kept : (t u : List ℕ) (k p : ℕ) → p < 256 → ((j : ℕ) → j / 4 ≡ k → get_or u j 0 ≡ get_or t j 0) → holds u k p ≡ holds t k p
unfolding holds
holds_kept t u k p h same = ap (λ (w : ℕ). bit w (p % 64)) (same (4 * k + p / 64) (omega arith))
