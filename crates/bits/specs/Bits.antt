-- Sets of numbers in words of 64 bits. "pair p is bit p modulo 64 (0 lowest) of word p/64". Assumes nothing: these are definitions.
use Rattle.std.specs.Prelude.{ℕ, ◌+◌, ◌*◌, ◌/◌, ◌%◌, ◌^◌, ◌<◌, ◌≡◌, Bool, not, List, eqb, get_or}
use Rattle.std.specs.Bool.{beq}
use Rattle.model.specs.Notation.{any_of, count_of, below}

-- n's lowest binary digit is 1
unfoldable pub odd : ℕ → Bool
odd n = eqb (n % 2) 1

-- bit i of the word w, 0 the lowest
unfoldable pub bit : ℕ → ℕ → Bool
bit w i = odd (w / 2 ^ i)

-- number p is in the set whose words are s
unfoldable pub member : List ℕ → ℕ → Bool
member s p = bit (get_or s (p / 64) 0) (p % 64)

-- "Holder k's stored set is the four words from word 4k": pair p is in it
unfoldable pub holds : List ℕ → ℕ → ℕ → Bool
holds t k p = bit (get_or t (4 * k + p / 64) 0) (p % 64)

-- some number below n passes, and how many do
unfoldable pub any_below : ℕ → (ℕ → Bool) → Bool
any_below n f = any_of f (below n)

unfoldable pub count_below : ℕ → (ℕ → Bool) → ℕ
count_below n f = count_of f (below n)

-- two sets do not hold the same numbers below n
unfoldable pub differ : ℕ → List ℕ → List ℕ → Bool
differ n s t = any_below n (λ p. not (beq (member s p) (member t p)))

-- the bits of w are those that f tells, and so are the numbers below n of the set s
abbrev pub Bits : ℕ → (ℕ → Bool) → Type 0
Bits w f = (i : ℕ) → bit w i ≡ f i

abbrev pub Numbers : ℕ → List ℕ → (ℕ → Bool) → Type 0
Numbers n s f = (p : ℕ) → p < n → member s p ≡ f p
