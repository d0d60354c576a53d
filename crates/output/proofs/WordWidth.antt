-- How many bytes a packed word has, by its leading zeros. Assumes nothing.
use Prim.Native.Nat.{ℕ, zero, suc, ◌+◌, ◌-◌, ◌*◌, ◌/◌, ◌^◌, ◌≤◌, ◌<◌}
use mathlib.Core.Path.{◌≡◌, refl, ap, ◌∙◌}
use native.Mathlib.Decide.{dec_lt}
use native.Mathlib.Omega.{arith}
use native.Mathlib.Nat.{pow-suc}
use lib.ListN.{length}
use lib.Count.{count_leading_zeros, leading_of_zero, leading_le}
use Rattle.output.specs.Laid.{word_text}
use Rattle.output.proofs.PackedWords.{word_more, word_none}

-- half of a word, in one bit less, has as many leading zeros
halved : (k w : ℕ) → (w ≡ 0 → ⊥) → count_leading_zeros (suc k) w ≡ count_leading_zeros k (w / 2)
unfolding count_leading_zeros
halved k zero h = absurd (h refl)
halved k (suc w) h = refl

-- and so has what a byte leaves of it, in eight bits less
byte-less : (k w : ℕ) → (w / 256 ≡ 0 → ⊥) → count_leading_zeros (8 + k) w ≡ count_leading_zeros k (w / 256)
byte-less k w h =
    let z : 8 + k ≡ suc (suc (suc (suc (suc (suc (suc (suc k))))))) = omega arith in
    let e : w / 2 / 2 / 2 / 2 / 2 / 2 / 2 / 2 ≡ w / 256 = omega arith in
    ap (λ (j : ℕ). count_leading_zeros j w) z
    ∙ halved _ w (λ x. h (omega arith))
    ∙ halved _ (w / 2) (λ x. h (omega arith))
    ∙ halved _ (w / 2 / 2) (λ x. h (omega arith))
    ∙ halved _ (w / 2 / 2 / 2) (λ x. h (omega arith))
    ∙ halved _ (w / 2 / 2 / 2 / 2) (λ x. h (omega arith))
    ∙ halved _ (w / 2 / 2 / 2 / 2 / 2) (λ x. h (omega arith))
    ∙ halved _ (w / 2 / 2 / 2 / 2 / 2 / 2) (λ x. h (omega arith))
    ∙ halved k (w / 2 / 2 / 2 / 2 / 2 / 2 / 2) (λ x. h (omega arith))
    ∙ ap (count_leading_zeros k) e

-- a number of j bits leaves the others 0
zeros-above : (j k w : ℕ) → w < 2 ^ j → k ≤ count_leading_zeros (j + k) w
zeros-above zero k w l =
    let z : w ≡ 0 = omega arith in
    let y : 0 + k ≡ k = omega arith in
    omega (arith, ap (λ (v : ℕ). count_leading_zeros (0 + k) v) z, leading_of_zero (0 + k))
zeros-above (suc j) k w l = go (dec_lt 0 w) (zeros-above j k (w / 2))
  where
    go : Dec (0 < w) → (w / 2 < 2 ^ j → k ≤ count_leading_zeros (j + k) (w / 2)) → k ≤ count_leading_zeros (suc j + k) w
    go (yes p) more =
        let z : suc j + k ≡ suc (j + k) = omega arith in
        let m = more (omega (arith, pow-suc 2 j)) in
        omega (arith, m, ap (λ (i : ℕ). count_leading_zeros i w) z, halved (j + k) w (λ e. omega arith))
    go (no p) more =
        let z : w ≡ 0 = omega arith in
        omega (arith, ap (count_leading_zeros (suc j + k)) z, leading_of_zero (suc j + k))

-- a number that is not 0 has a bit that is no leading zero
some-bit : (k w : ℕ) → (w ≡ 0 → ⊥) → count_leading_zeros (8 + k) w ≤ 7 + k
some-bit k w h =
    let z : 8 + k ≡ suc (7 + k) = omega arith in
    omega (arith, ap (λ (i : ℕ). count_leading_zeros i w) z, halved (7 + k) w h, leading_le (7 + k) (w / 2))

pub word_width : (n w : ℕ) → w < 256 ^ n → (8 * n + 7 - count_leading_zeros (8 * n) w) / 8 ≡ length (word_text n w)
word_width zero w l =
    let z : w ≡ 0 = omega arith in
    let e = ap length (ap (word_text 0) z ∙ word_none 0) in
    let f : count_leading_zeros (8 * 0) w ≡ 0 = ap (count_leading_zeros (8 * 0)) z ∙ leading_of_zero 0 in
    omega (arith, e, f)
word_width (suc n) w l = go (dec_lt 0 w) (dec_lt 0 (w / 256)) (word_width n (w / 256))
  where
    bits : 8 * suc n ≡ 8 + 8 * n
    bits = omega arith

    same : count_leading_zeros (8 * suc n) w ≡ count_leading_zeros (8 + 8 * n) w
    same = ap (λ (i : ℕ). count_leading_zeros i w) bits

    go : Dec (0 < w) → Dec (0 < w / 256) → (w / 256 < 256 ^ n → (8 * n + 7 - count_leading_zeros (8 * n) (w / 256)) / 8 ≡ length (word_text n (w / 256)))
        → (8 * suc n + 7 - count_leading_zeros (8 * suc n) w) / 8 ≡ length (word_text (suc n) w)
    go (no p) d more =
        let z : w ≡ 0 = omega arith in
        omega (arith, ap length (ap (word_text (suc n)) z ∙ word_none (suc n)), ap (count_leading_zeros (8 * suc n)) z, leading_of_zero (8 * suc n))
    go (yes p) (no q) more =
        let z : w / 256 ≡ 0 = omega arith in
        let e = ap length (word_more n w (λ e. omega arith)) in
        let f = ap length (ap (word_text n) z ∙ word_none n) in
        let low : 8 * n ≤ count_leading_zeros (8 + 8 * n) w = zeros-above 8 (8 * n) w (omega arith) in
        let high = some-bit (8 * n) w (λ e. omega arith) in
        omega (arith, e, f, low, high, same)
    go (yes p) (yes q) more =
        let e = ap length (word_more n w (λ e. omega arith)) in
        let m = more (omega (arith, pow-suc 256 n)) in
        omega (arith, e, m, same, byte-less (8 * n) w (λ e. omega arith), leading_le (8 * n) (w / 256))
