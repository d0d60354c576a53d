-- Decimal digits on the way through a list.
use Prim.Native.Nat.{ℕ, ◌+◌, ◌-◌, ◌*◌, ◌≤◌, ◌<◌}
use mathlib.Core.Path.{◌≡◌, refl, ap, ◌∙◌}
use mathlib.Core.Bool.{Bool, true, false, ◌&&◌, not}
use mathlib.Core.List.{[], ◌∷◌}
use mathlib.Core.Logic.{◌⊎◌, inl, inr}
use mathlib.Core.Option.{none}
use native.Mathlib.Omega.{arith}
use borrow.Author.Tests.{le-leb, lt-leb, ne_eqb}
use lib.ListN.{length, get_or, drop}
use lib.Dec.{leb}
use Rattle.std.proofs.Common.{Some, None}
use Rattle.model.specs.Notation.{all_of, only_if}
use Rattle.model.specs.Limits.{largest_int}
use Rattle.model.specs.Bytes.{Bytes}
use Rattle.model.specs.Atoms.{number_from, no_leading_zero, read_int}
use Rattle.model.proofs.Options.{parts}
use Rattle.model.proofs.Decimals.{digit, digit-range}
use Rattle.codes.specs.Enums.{told}
use Rattle.text.specs.ReadCodes.{is_decimal, limited}
use Rattle.text.proofs.LoopPlaces.{next, done, all-at}

-- a digit alone, or one that is no 0, is no leading zero
lead : (s : Bytes) → (length s < 2) ⊎ (get_or s 0 0 ≡ 48 → ⊥) → no_leading_zero s ≡ true
lead [] h = refl
lead (x ∷ []) h = refl
lead (x ∷ y ∷ s) (inl h) = absurd (omega arith)
lead (x ∷ y ∷ s) (inr n) = ap not (ne_eqb x 48 n)

pub decimal-by : (s : Bytes) (r : Bool) → 1 ≤ length s → (length s < 2) ⊎ (get_or s 0 0 ≡ 48 → ⊥) → r ≡ all_of digit s → r ≡ is_decimal s
unfolding is_decimal
decimal-by s r some h e = rw (le-leb 1 (length s) some, lead s h) (e ∙ go (all_of digit s))
  where
    go : (b : Bool) → b ≡ (b && true)
    go true = refl
    go false = refl

-- each byte is a digit
pub decimal-at : (s : Bytes) → is_decimal s ≡ true → (i : ℕ) → i < length s → (48 ≤ get_or s i 0) × (get_or s i 0 ≤ 57)
unfolding is_decimal
decimal-at s e i h = digit-range (get_or s i 0) (all-at digit s (parts (leb 1 (length s)) (all_of digit s) (parts (leb 1 (length s) && all_of digit s) (no_leading_zero s) e).0).1 i h)

-- the digit at place i is read
pub number-on : (s : Bytes) (i v : ℕ) → i < length s → number_from v (drop i s) ≡ number_from (v * 10 + (get_or s i 0 - 48)) (drop (i + 1) s)
number-on s i v h = rw (next s i h)

pub number-end : (s : Bytes) (i v : ℕ) → length s ≤ i → number_from v (drop i s) ≡ v
number-end s i v h = rw (done s i h)

pub number-grows : (v : ℕ) (s : Bytes) → v ≤ number_from v s
number-grows v [] = omega arith
number-grows v (x ∷ s) = let h = number-grows (v * 10 + (x - 48)) s in omega arith

pub limited-large : (s : Bytes) → largest_int < number_from 0 s → told (limited s) ≡ None
unfolding limited
limited-large s h = rw (lt-leb (number_from 0 s) largest_int h)

pub limited-small : (s : Bytes) (v : ℕ) → number_from 0 s ≡ v → v ≤ largest_int → told (limited s) ≡ Some v
unfolding limited
limited-small s v e h = rw (e, le-leb v largest_int h)

pub int_decimal : (s : Bytes) → is_decimal s ≡ true → read_int s ≡ limited s
unfolding is_decimal limited read_int
int_decimal s e = ap (λ (t : Bool). only_if (t && leb (number_from 0 s) largest_int) (number_from 0 s)) e

pub int_other : (s : Bytes) → is_decimal s ≡ false → read_int s ≡ none
unfolding is_decimal read_int
int_other s e = ap (λ (t : Bool). only_if (t && leb (number_from 0 s) largest_int) (number_from 0 s)) e
