-- Laws of single bits. Assumes nothing.
use Prim.Native.Nat.{ℕ, zero, suc, ◌-◌, ◌*◌, ◌/◌, ◌%◌, ◌^◌, ◌≤◌, ◌<◌, min, max}
use mathlib.Core.Path.{◌≡◌, refl, sym, ap, ◌∙◌}
use mathlib.Core.Bool.{Bool, false, not, ◌&&◌, ◌||◌}
use native.Mathlib.Nat.{zero-lt-suc, pow-suc, one-mul, mul-div_cancel, mul-mod_left}
use native.Mathlib.Decide.{ℕ_discrete, dec_lt}
use native.Mathlib.Numerals.{add-one, one-add}
use native.Mathlib.Omega.{arith}
use lib.Arith.{digits_mod, lt-one}
use lib.Pow.{shr-shr, shr_lt, shl_exact, pow-lt}
use lib.Bits.{bit_and, bit_or, or_step, and_step, or_shr, and_shr, and_mask}
use lib.Dec.{eqb, eqb-zero-suc, eqb-suc-zero, eqb-suc-suc}
use borrow.Author.Tests.{eq-eqb, ne_eqb, eqb-true, eqb-false}
use Rattle.bits.specs.Bits.{odd, bit}

-- two tests that hold together
pub same_test : (a b c d : ℕ) → (a ≡ b → c ≡ d) → (c ≡ d → a ≡ b) → eqb a b ≡ eqb c d
same_test a b c d f g = go (ℕ_discrete a b)
  where
    go : Dec (a ≡ b) → eqb a b ≡ eqb c d
    go (yes e) = eq-eqb a b e ∙ sym (eq-eqb c d (f e))
    go (no n) = ne_eqb a b n ∙ sym (ne_eqb c d (λ e. n (g e)))

max-odd : (x y : ℕ) → x < 2 → y < 2 → (max x y < 2) × (eqb (max x y) 1 ≡ (eqb x 1 || eqb y 1))
max-odd zero zero h l = (omega arith, refl)
max-odd zero (suc zero) h l = (omega arith, refl)
max-odd zero (suc (suc y)) h l = absurd (omega arith)
max-odd (suc zero) zero h l = (omega arith, refl)
max-odd (suc zero) (suc zero) h l = (omega arith, refl)
max-odd (suc zero) (suc (suc y)) h l = absurd (omega arith)
max-odd (suc (suc x)) y h l = absurd (omega arith)

min-odd : (x y : ℕ) → x < 2 → y < 2 → (min x y < 2) × (eqb (min x y) 1 ≡ (eqb x 1 && eqb y 1))
min-odd zero zero h l = (omega arith, refl)
min-odd zero (suc zero) h l = (omega arith, refl)
min-odd zero (suc (suc y)) h l = absurd (omega arith)
min-odd (suc zero) zero h l = (omega arith, refl)
min-odd (suc zero) (suc zero) h l = (omega arith, refl)
min-odd (suc zero) (suc (suc y)) h l = absurd (omega arith)
min-odd (suc (suc x)) y h l = absurd (omega arith)

odd-or : (a b : ℕ) → odd (bit_or a b) ≡ (odd a || odd b)
unfolding odd
odd-or a b =
    let d = max-odd (a % 2) (b % 2) (omega arith) (omega arith) in
    ap (λ (n : ℕ). eqb (n % 2) 1) (or_step a b) ∙ ap (λ (n : ℕ). eqb n 1) (digits_mod (bit_or (a / 2) (b / 2)) d.0) ∙ d.1

odd-and : (a b : ℕ) → odd (bit_and a b) ≡ (odd a && odd b)
unfolding odd
odd-and a b =
    let d = min-odd (a % 2) (b % 2) (omega arith) (omega arith) in
    ap (λ (n : ℕ). eqb (n % 2) 1) (and_step a b) ∙ ap (λ (n : ℕ). eqb n 1) (digits_mod (bit_and (a / 2) (b / 2)) d.0) ∙ d.1

pub bit-or : (a b i : ℕ) → bit (bit_or a b) i ≡ (bit a i || bit b i)
unfolding bit
bit-or a b i = ap odd (or_shr a b i) ∙ odd-or (a / 2 ^ i) (b / 2 ^ i)

pub bit-and : (a b i : ℕ) → bit (bit_and a b) i ≡ (bit a i && bit b i)
unfolding bit
bit-and a b i = ap odd (and_shr a b i) ∙ odd-and (a / 2 ^ i) (b / 2 ^ i)

-- what the code's test `(w >> i) & 1 == 1` computes
pub bit_test : (w i : ℕ) → eqb (bit_and (w / 2 ^ i) 1) 1 ≡ bit w i
unfolding bit odd
bit_test w i = ap (λ (n : ℕ). eqb n 1) (and_mask (w / 2 ^ i) 1)

-- the lowest bit, and the others
pub bit-zero : (w : ℕ) → bit w 0 ≡ odd w
unfolding bit odd
bit-zero w = let e : w / 1 ≡ w = omega arith in ap (λ (n : ℕ). eqb (n % 2) 1) e

pub bit-suc : (w i : ℕ) → bit w (suc i) ≡ bit (w / 2) i
unfolding bit
bit-suc w i = ap (λ (n : ℕ). odd (w / 2 ^ n)) (sym (one-add i)) ∙ ap odd (sym (shr-shr w 1 i))

pub bit-none : (i : ℕ) → bit 0 i ≡ false
unfolding bit odd
bit-none zero = refl
bit-none (suc i) = bit-suc 0 i ∙ bit-none i

-- a word of k digits has no bit from k up
pub bit_high : (k w i : ℕ) → w < 2 ^ k → k ≤ i → bit w i ≡ false
bit_high zero w i h l = ap (λ (n : ℕ). bit n i) (lt-one h) ∙ bit-none i
bit_high (suc k) w zero h l = absurd (omega arith)
bit_high (suc k) w (suc i) h l = bit-suc w i ∙ bit_high k (w / 2) i (shr_lt k 1 (rw add-one h)) (omega arith)

-- the word with bit j alone
pub bit-pow : (j i : ℕ) → bit (2 ^ j) i ≡ eqb i j
unfolding bit odd
bit-pow zero zero = refl
bit-pow zero (suc i) = bit-suc 1 i ∙ bit-none i ∙ sym (eqb-suc-zero i)
bit-pow (suc j) zero =
    bit-zero (2 ^ suc j) ∙ ap (λ (n : ℕ). eqb (n % 2) 1) (pow-suc 2 j) ∙ ap (λ (n : ℕ). eqb n 1) (mul-mod_left (2 ^ j) 2) ∙ sym (eqb-zero-suc j)
bit-pow (suc j) (suc i) =
    bit-suc (2 ^ suc j) i ∙ ap (λ (n : ℕ). bit (n / 2) i) (pow-suc 2 j) ∙ ap (λ (n : ℕ). bit n i) (mul-div_cancel (2 ^ j) (zero-lt-suc 1)) ∙ bit-pow j i ∙ sym (eqb-suc-suc i j)

-- the digits of a word of k digits, turned round
odd-not : (x y : ℕ) → x < 2 → y ≡ 1 - x → eqb y 1 ≡ not (eqb x 1)
odd-not zero y h e = ap (λ (n : ℕ). eqb n 1) e
odd-not (suc zero) y h e = ap (λ (n : ℕ). eqb n 1) e
odd-not (suc (suc x)) y h e = absurd (omega arith)

pub bit_not : (k w i : ℕ) → w < 2 ^ k → i < k → bit (2 ^ k - 1 - w) i ≡ not (bit w i)
unfolding odd
bit_not zero w i h l = absurd (omega arith)
bit_not (suc k) w zero h l =
    let e : (2 ^ suc k - 1 - w) % 2 ≡ 1 - w % 2 = omega (arith, pow-suc 2 k, h) in
    bit-zero (2 ^ suc k - 1 - w) ∙ odd-not (w % 2) ((2 ^ suc k - 1 - w) % 2) (omega arith) e ∙ ap not (sym (bit-zero w))
bit_not (suc k) w (suc i) h l =
    let e : (2 ^ suc k - 1 - w) / 2 ≡ 2 ^ k - 1 - w / 2 = omega (arith, pow-suc 2 k, h) in
    bit-suc (2 ^ suc k - 1 - w) i ∙ ap (λ (n : ℕ). bit n i) e ∙ bit_not k (w / 2) i (shr_lt k 1 (rw add-one h)) (omega arith) ∙ ap not (sym (bit-suc w i))

-- what the code's `1 << i` is
shifted : (i : ℕ) → i < 64 → 1 * 2 ^ i % 2 ^ 64 ≡ 2 ^ i
shifted i h = shl_exact {a = 1} 1 i 64 (omega arith) (omega arith) ∙ one-mul (2 ^ i)

-- what the code's `w | 1 << i` computes
pub bit-with : (w i j : ℕ) → i < 64 → bit (bit_or w (1 * 2 ^ i % 2 ^ 64)) j ≡ (bit w j || eqb j i)
bit-with w i j h =
    ap (λ (n : ℕ). bit (bit_or w n) j) (shifted i h) ∙ bit-or w (2 ^ i) j ∙ ap (λ (b : Bool). bit w j || b) (bit-pow i j)

-- and `w & !(1 << i)`
pub bit-without : (w i j : ℕ) → w < 2 ^ 64 → i < 64 → bit (bit_and w (2 ^ 64 - 1 - 1 * 2 ^ i % 2 ^ 64)) j ≡ (bit w j && not (eqb j i))
bit-without w i j fit h =
    ap (λ (n : ℕ). bit (bit_and w (2 ^ 64 - 1 - n)) j) (shifted i h) ∙ bit-and w (2 ^ 64 - 1 - 2 ^ i) j ∙ go (dec_lt j 64)
  where
    go : Dec (j < 64) → (bit w j && bit (2 ^ 64 - 1 - 2 ^ i) j) ≡ (bit w j && not (eqb j i))
    go (yes l) = ap (λ (b : Bool). bit w j && b) (bit_not 64 (2 ^ i) j (pow-lt h) l ∙ ap not (bit-pow i j))
    go (no l) = rw (bit_high 64 w j fit (omega arith))

-- two words of k digits with the same bits are equal
same-odd : (x y : ℕ) → x < 2 → y < 2 → eqb x 1 ≡ eqb y 1 → x ≡ y
same-odd zero zero h l e = refl
same-odd zero (suc zero) h l e = absurd (eqb-false 0 1 refl (eqb-true 0 1 e))
same-odd zero (suc (suc y)) h l e = absurd (omega arith)
same-odd (suc zero) zero h l e = absurd (eqb-false 0 1 refl (eqb-true 0 1 (sym e)))
same-odd (suc zero) (suc zero) h l e = refl
same-odd (suc zero) (suc (suc y)) h l e = absurd (omega arith)
same-odd (suc (suc x)) y h l e = absurd (omega arith)

pub bit-ext : (k a b : ℕ) → a < 2 ^ k → b < 2 ^ k → ((i : ℕ) → i < k → bit a i ≡ bit b i) → a ≡ b
unfolding odd
bit-ext zero a b h l e = lt-one h ∙ sym (lt-one l)
bit-ext (suc k) a b h l e =
    let lows : a % 2 ≡ b % 2 =
    same-odd (a % 2) (b % 2) (omega arith) (omega arith) (sym (bit-zero a) ∙ e 0 (omega arith) ∙ bit-zero b) in
    let highs : a / 2 ≡ b / 2 =
    bit-ext k (a / 2) (b / 2) (shr_lt k 1 (rw add-one h)) (shr_lt k 1 (rw add-one l))
    (λ i m. sym (bit-suc a i) ∙ e (suc i) (omega arith) ∙ bit-suc b i) in
    omega arith
