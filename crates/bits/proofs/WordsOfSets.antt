-- The words that the specification gives to a set, and a set's words. Assumes nothing.
use Prim.Native.Nat.{ℕ, zero, suc, ◌+◌, ◌*◌, ◌/◌, ◌%◌, ◌^◌, ◌<◌}
use mathlib.Core.Path.{◌≡◌, refl, sym, ap, ap₂, ◌∙◌}
use mathlib.Core.Bool.{Bool, true, false}
use mathlib.Core.List.{List}
use native.Mathlib.Nat.{pow-suc}
use native.Mathlib.Omega.{arith}
use lib.Dec.{eqb}
use lib.ListN.{length, get_or}
use lib.Seq.{ext_get_or}
use Rattle.model.specs.Notation.{if◌then◌otherwise◌}
use Rattle.model.specs.Table.{word, words_of}
use Rattle.bits.specs.Bits.{odd, bit, member}
use Rattle.bits.proofs.Bits.{bit-zero, bit-suc, bit-ext}
use Rattle.bits.proofs.Sets.{four}
use Rattle.bits.proofs.Counts.{num, num-le}

-- the highest bit of a word, and the lowest
place-value : (b : Bool) (n : ℕ) → (if b then 2 ^ suc n otherwise 0) ≡ 2 * (if b then 2 ^ n otherwise 0)
place-value true n = omega (arith, pow-suc 2 n)
place-value false n = refl

lowest : (b : Bool) → (if b then 2 ^ 0 otherwise 0) ≡ num b
lowest true = refl
lowest false = refl

word-front : (n : ℕ) (f : ℕ → Bool) → word (suc n) f ≡ num (f 0) + 2 * word n (λ i. f (suc i))
word-front zero f = omega (arith, lowest (f 0))
word-front (suc n) f = omega (arith, word-front n f, place-value (f (suc n)) n)

pub word_lt : (n : ℕ) (f : ℕ → Bool) → word n f < 2 ^ n
word_lt zero f = omega arith
word_lt (suc n) f = omega (arith, pow-suc 2 n, word-front n f, num-le (f 0), word_lt n (λ i. f (suc i)))

odd-num : (b : Bool) (m : ℕ) → odd (num b + 2 * m) ≡ b
unfolding odd
odd-num true m = let e : (1 + 2 * m) % 2 ≡ 1 = omega arith in ap (λ (x : ℕ). eqb x 1) e
odd-num false m = let e : (0 + 2 * m) % 2 ≡ 0 = omega arith in ap (λ (x : ℕ). eqb x 1) e

-- bit i of the word tells whether i passes
pub bit_word : (n : ℕ) (f : ℕ → Bool) (i : ℕ) → i < n → bit (word n f) i ≡ f i
bit_word zero f i h = absurd (omega arith)
bit_word (suc n) f zero h = bit-zero (word (suc n) f) ∙ ap odd (word-front n f) ∙ odd-num (f 0) (word n (λ i. f (suc i)))
bit_word (suc n) f (suc i) h =
    let e : word (suc n) f / 2 ≡ word n (λ i. f (suc i)) = omega (arith, word-front n f, num-le (f 0)) in
    bit-suc (word (suc n) f) i ∙ ap (λ (w : ℕ). bit w i) e ∙ bit_word n (λ i. f (suc i)) i (omega arith)

-- and a word is known by its bits
pub word-bits : (n w : ℕ) → w < 2 ^ n → word n (bit w) ≡ w
word-bits n w h = bit-ext n (word n (bit w)) w (word_lt n (bit w)) h (bit_word n (bit w))

-- ---- the four words of a set

pub length-words : (f : ℕ → Bool) → length (words_of f) ≡ 4
unfolding words_of
length-words f = refl

pub get_d_words : (f : ℕ → Bool) (j : ℕ) → j < 4 → get_or (words_of f) j 0 ≡ word 64 (λ i. f (64 * j + i))
unfolding words_of
get_d_words f j h = four (λ (j : ℕ). get_or (words_of f) j 0 ≡ word 64 (λ i. f (64 * j + i))) refl refl refl refl j h

pub member-words : (f : ℕ → Bool) (p : ℕ) → p < 256 → member (words_of f) p ≡ f p
unfolding member
member-words f p h =
    let e : 64 * (p / 64) + p % 64 ≡ p = omega arith in
    ap (λ (w : ℕ). bit w (p % 64)) (get_d_words f (p / 64) (omega arith)) ∙ bit_word 64 (λ i. f (64 * (p / 64) + i)) (p % 64) (omega arith) ∙ ap f e

-- word j, where the numbers of its 64 are those that f tells
pub word-is : (f : ℕ → Bool) (w j : ℕ) → w < 2 ^ 64 → ((i : ℕ) → i < 64 → bit w i ≡ f (64 * j + i)) → w ≡ word 64 (λ i. f (64 * j + i))
word-is f w j fit e =
    bit-ext 64 w (word 64 (λ i. f (64 * j + i))) fit (word_lt 64 (λ i. f (64 * j + i))) (λ i l. e i l ∙ sym (bit_word 64 (λ i. f (64 * j + i)) i l))

-- the words of a set are those that the specification gives to its numbers
pub words_are : (f : ℕ → Bool) (s : List ℕ) → length s ≡ 4 → ((j : ℕ) → get_or s j 0 < 2 ^ 64) → ((p : ℕ) → p < 256 → member s p ≡ f p) → s ≡ words_of f
unfolding member
words_are f s long fit e =
    ext_get_or 0 s (words_of f) (long ∙ sym (length-words f))
    (λ j l.
    word-is f (get_or s j 0) j (fit j)
    (λ i m.
    let d : (64 * j + i) / 64 ≡ j = omega arith in
    let r : (64 * j + i) % 64 ≡ i = omega arith in
    ap₂ (λ (x y : ℕ). bit (get_or s x 0) y) (sym d) (sym r) ∙ e (64 * j + i) (omega arith))
    ∙ sym (get_d_words f j (omega arith)))
