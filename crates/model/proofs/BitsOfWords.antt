-- The bits of a word, 0 the lowest: those of `word` are the ones it was made of, and two words with the same bits are equal. Assumes nothing.
use Prim.Native.Nat.{ℕ, zero, suc, ◌+◌, ◌*◌, ◌/◌, ◌%◌, ◌^◌, ◌≤◌, ◌<◌}
use mathlib.Core.Path.{◌≡◌, refl, sym, ap, ap₂, ◌∙◌}
use mathlib.Core.Bool.{Bool, true, false}
use native.Mathlib.Nat.{pow-suc}
use native.Mathlib.Numerals.{add-one, one-add}
use native.Mathlib.Omega.{arith}
use lib.Arith.{lt-one}
use lib.Pow.{shr-shr, shr_lt}
use lib.Dec.{eqb}
use borrow.Author.Tests.{eqb-true, eqb-false}
use Rattle.model.specs.Notation.{if◌then◌otherwise◌}
use Rattle.model.specs.Table.{word}

-- bit i of w
unfoldable pub bit_of : ℕ → ℕ → Bool
bit_of w i = eqb (w / 2 ^ i % 2) 1

-- the lowest bit, and the others
pub bit-zero : (w : ℕ) → bit_of w 0 ≡ eqb (w % 2) 1
unfolding bit_of
bit-zero w = let e : w / 1 ≡ w = omega arith in ap (λ (n : ℕ). eqb (n % 2) 1) e

pub bit-suc : (w i : ℕ) → bit_of w (suc i) ≡ bit_of (w / 2) i
unfolding bit_of
bit-suc w i = ap (λ (n : ℕ). eqb (w / 2 ^ n % 2) 1) (sym (one-add i)) ∙ ap (λ (n : ℕ). eqb (n % 2) 1) (sym (shr-shr w 1 i))

pub bit-none : (i : ℕ) → bit_of 0 i ≡ false
unfolding bit_of
bit-none zero = refl
bit-none (suc i) = bit-suc 0 i ∙ bit-none i

-- ---- words made of bits

-- 1 or 0
abbrev digit : Bool → ℕ
digit b = if b then 1 otherwise 0

digit-le : (b : Bool) → digit b ≤ 1
digit-le true = omega arith
digit-le false = omega arith

digit-odd : (b : Bool) (m : ℕ) → eqb ((digit b + 2 * m) % 2) 1 ≡ b
digit-odd true m = let e : (1 + 2 * m) % 2 ≡ 1 = omega arith in ap (λ (x : ℕ). eqb x 1) e
digit-odd false m = let e : (0 + 2 * m) % 2 ≡ 0 = omega arith in ap (λ (x : ℕ). eqb x 1) e

-- the highest bit of a word, and the lowest
place-value : (b : Bool) (n : ℕ) → (if b then 2 ^ suc n otherwise 0) ≡ 2 * (if b then 2 ^ n otherwise 0)
place-value true n = omega (arith, pow-suc 2 n)
place-value false n = refl

word-front : (n : ℕ) (f : ℕ → Bool) → word (suc n) f ≡ digit (f 0) + 2 * word n (λ i. f (suc i))
word-front zero f = omega arith
word-front (suc n) f = omega (arith, word-front n f, place-value (f (suc n)) n)

pub word_lt : (n : ℕ) (f : ℕ → Bool) → word n f < 2 ^ n
word_lt zero f = omega arith
word_lt (suc n) f = omega (arith, pow-suc 2 n, word-front n f, digit-le (f 0), word_lt n (λ i. f (suc i)))

pub word_same : (n : ℕ) (f g : ℕ → Bool) → ((i : ℕ) → i < n → f i ≡ g i) → word n f ≡ word n g
word_same zero f g e = refl
word_same (suc n) f g e =
    ap₂ (λ (w : ℕ) (b : Bool). w + (if b then 2 ^ n otherwise 0)) (word_same n f g (λ i l. e i (omega arith))) (e n (omega arith))

-- bit i of the word tells whether i passes
pub bit_word : (n : ℕ) (f : ℕ → Bool) (i : ℕ) → i < n → bit_of (word n f) i ≡ f i
bit_word zero f i h = absurd (omega arith)
bit_word (suc n) f zero h =
    bit-zero (word (suc n) f) ∙ ap (λ (w : ℕ). eqb (w % 2) 1) (word-front n f) ∙ digit-odd (f 0) (word n (λ i. f (suc i)))
bit_word (suc n) f (suc i) h =
    let e : word (suc n) f / 2 ≡ word n (λ i. f (suc i)) = omega (arith, word-front n f, digit-le (f 0)) in
    bit-suc (word (suc n) f) i ∙ ap (λ (w : ℕ). bit_of w i) e ∙ bit_word n (λ i. f (suc i)) i (omega arith)

-- ---- a word is known by its bits

same-digit : (x y : ℕ) → x < 2 → y < 2 → eqb x 1 ≡ eqb y 1 → x ≡ y
same-digit zero zero h l e = refl
same-digit zero (suc zero) h l e = absurd (eqb-false 0 1 refl (eqb-true 0 1 e))
same-digit zero (suc (suc y)) h l e = absurd (omega arith)
same-digit (suc zero) zero h l e = absurd (eqb-false 0 1 refl (eqb-true 0 1 (sym e)))
same-digit (suc zero) (suc zero) h l e = refl
same-digit (suc zero) (suc (suc y)) h l e = absurd (omega arith)
same-digit (suc (suc x)) y h l e = absurd (omega arith)

pub same_bits : (n a b : ℕ) → a < 2 ^ n → b < 2 ^ n → ((i : ℕ) → i < n → bit_of a i ≡ bit_of b i) → a ≡ b
same_bits zero a b h l e = lt-one h ∙ sym (lt-one l)
same_bits (suc n) a b h l e =
    let lows : a % 2 ≡ b % 2 = same-digit (a % 2) (b % 2) (omega arith) (omega arith) (sym (bit-zero a) ∙ e 0 (omega arith) ∙ bit-zero b) in
    let highs : a / 2 ≡ b / 2 =
    same_bits n (a / 2) (b / 2) (shr_lt n 1 (rw add-one h)) (shr_lt n 1 (rw add-one l)) (λ i m. sym (bit-suc a i) ∙ e (suc i) (omega arith) ∙ bit-suc b i) in
    omega arith
