-- Decimal digits: a number is read exactly from the digits that write it.
use Prim.Native.Nat.{ℕ, zero, suc, ◌+◌, ◌-◌, ◌*◌, ◌/◌, ◌%◌, ◌≤◌, ◌<◌}
use mathlib.Core.Path.{◌≡◌, refl, sym, ap, ◌∙◌}
use mathlib.Core.Logic.{◌↔◌}
use mathlib.Core.Bool.{Bool, true, false, not}
use mathlib.Core.List.{[], ◌∷◌, ◌++◌, append-nil, append_assoc}
use mathlib.Core.Option.{some}
use native.Mathlib.Omega.{arith}
use borrow.Author.Tests.{leb-true, ltb-true, ltb-false, lt-ltb, le-ltb, le-leb, ne_eqb, eqb-false, not-true}
use lib.ListN.{length, length-append}
use lib.Dec.{ltb}
use Rattle.model.specs.Notation.{all_of}
use Rattle.model.specs.Limits.{largest_int}
use Rattle.model.specs.Bytes.{Bytes, is_byte, in_range}
use Rattle.model.specs.Atoms.{number_from, no_leading_zero, read_int, digits_within, decimal}
use Rattle.model.proofs.WordTables.{false-is-true}
use Rattle.model.proofs.Options.{parts, both, condition}
use Rattle.model.proofs.Lists.{all-parts, all_cons, all_append}

abbrev pub digit : ℕ → Bool
digit = in_range "0" "9"

pub digit-range : (x : ℕ) → digit x ≡ true → (48 ≤ x) × (x ≤ 57)
digit-range x e = let (p, q) = parts _ _ e in (leb-true 48 x p, leb-true x 57 q)

pub range-digit : (x : ℕ) → 48 ≤ x → x ≤ 57 → digit x ≡ true
range-digit x p q = both (le-leb 48 x p) (le-leb x 57 q)

-- a number below 10 is one digit, any other one digit more than its tenth
pub within-last : (f n : ℕ) → n < 10 → digits_within (suc f) n ≡ (48 + n) ∷ []
within-last f n h = rw (digits_within, lt-ltb n 10 h)

pub within_more : (f n : ℕ) → 10 ≤ n → digits_within (suc f) n ≡ digits_within f (n / 10) ++ (48 + n % 10) ∷ []
within_more f n h = rw (digits_within, le-ltb n 10 h)

-- a bound that is large enough does not matter
pub within-enough : (f g n : ℕ) → n < f → n < g → digits_within f n ≡ digits_within g n
within-enough zero g n h k = absurd (omega arith)
within-enough (suc f) zero n h k = absurd (omega arith)
within-enough (suc f) (suc g) n h k = go (ltb n 10) refl (within-enough f g (n / 10))
  where
    go : (t : Bool) → ltb n 10 ≡ t → (n / 10 < f → n / 10 < g → digits_within f (n / 10) ≡ digits_within g (n / 10)) → digits_within (suc f) n ≡ digits_within (suc g) n
    go true e i = let l = ltb-true n 10 e in within-last f n l ∙ sym (within-last g n l)
    go false e i =
        let l = ltb-false n 10 e in
        within_more f n l ∙ ap (λ (s : Bytes). s ++ (48 + n % 10) ∷ []) (i (omega arith) (omega arith)) ∙ sym (within_more g n l)

pub decimal-last : (n : ℕ) → n < 10 → decimal n ≡ (48 + n) ∷ []
unfolding decimal
decimal-last n h = within-last n n h

pub decimal-more : (a d : ℕ) → 0 < a → d < 10 → decimal (a * 10 + d) ≡ decimal a ++ (48 + d) ∷ []
unfolding decimal
decimal-more a d h k =
    let q : (a * 10 + d) / 10 ≡ a = omega arith in
    let r : (a * 10 + d) % 10 ≡ d = omega arith in
    within_more (a * 10 + d) (a * 10 + d) (omega arith) ∙ rw (q, r) (ap (λ (s : Bytes). s ++ (48 + d) ∷ []) (within-enough (a * 10 + d) (suc a) a (omega arith) (omega arith)))

-- induction over numbers by their last digit
pub by_digits : (P : ℕ → Type 0) → ((n : ℕ) → n < 10 → P n) → ((a d : ℕ) → 0 < a → d < 10 → P a → P (a * 10 + d)) → (n : ℕ) → P n
by_digits P one more n = go (suc n) n (omega arith)
  where
    go : (f n : ℕ) → n < f → P n
    go zero n h = absurd (omega arith)
    go (suc f) n h = step (ltb n 10) refl (go f (n / 10))
      where
        step : (t : Bool) → ltb n 10 ≡ t → (n / 10 < f → P (n / 10)) → P n
        step true e i = one n (ltb-true n 10 e)
        step false e i =
            let l = ltb-false n 10 e in
            let z : n / 10 * 10 + n % 10 ≡ n = omega arith in
            rw z at (more (n / 10) (n % 10) (omega arith) (omega arith) (i (omega arith)))

pub number_append : (a : ℕ) (s t : Bytes) → number_from a (s ++ t) ≡ number_from (number_from a s) t
number_append a [] t = refl
number_append a (x ∷ s) t = number_append (a * 10 + (x - 48)) s t

-- reading on from a leads to the number that a's digits and the ones read write
pub decimal-number : (a : ℕ) (s : Bytes) → 0 < a → all_of digit s ≡ true → decimal (number_from a s) ≡ decimal a ++ s
decimal-number a [] h e = sym (append-nil (decimal a))
decimal-number a (x ∷ s) h e =
    let (p, q) = all-parts digit x s e in
    let r = digit-range x p in
    let z : 48 + (x - 48) ≡ x = omega arith in
    decimal-number (a * 10 + (x - 48)) s (omega arith) q ∙ rw (decimal-more a (x - 48) h (omega arith), z) (append_assoc (decimal a) (x ∷ []) s)

-- the digits of a number are digits, and write it
pub digits_decimal : (n : ℕ) → all_of digit (decimal n) ≡ true
digits_decimal = by_digits (λ n. all_of digit (decimal n) ≡ true)
    (λ n h. rw (decimal-last n h) (all_cons digit (48 + n) [] (range-digit (48 + n) (omega arith) (omega arith)) refl))
    (λ a d h k i. rw (decimal-more a d h k) (all_append digit (decimal a) _ i (all_cons digit (48 + d) [] (range-digit (48 + d) (omega arith) (omega arith)) refl)))

pub number-decimal : (n : ℕ) → number_from 0 (decimal n) ≡ n
number-decimal = by_digits (λ n. number_from 0 (decimal n) ≡ n)
    (λ n h. rw (decimal-last n h) (omega arith))
    (λ a d h k i. rw (decimal-more a d h k, number_append 0 (decimal a) ((48 + d) ∷ []), i) (omega arith))

-- a first digit that is not 0
abbrev leads : Bytes → Bool
leads [] = false
leads (x ∷ s) = not (is_byte "0" x)

leads-append : (s t : Bytes) → leads s ≡ true → leads (s ++ t) ≡ true
leads-append [] t e = false-is-true e
leads-append (x ∷ s) t e = e

leads-no-zero : (s : Bytes) → leads s ≡ true → no_leading_zero s ≡ true
leads-no-zero [] e = refl
leads-no-zero (x ∷ []) e = refl
leads-no-zero (x ∷ y ∷ s) e = e

leads-decimal : (n : ℕ) → 0 < n → leads (decimal n) ≡ true
leads-decimal = by_digits (λ n. 0 < n → leads (decimal n) ≡ true)
    (λ n h l. rw (decimal-last n h) (ap not (ne_eqb (48 + n) 48 (omega arith))))
    (λ a d h k i l. rw (decimal-more a d h k) (leads-append (decimal a) _ (i h)))

pub no-zero-decimal : (n : ℕ) → no_leading_zero (decimal n) ≡ true
no-zero-decimal zero = rw (decimal-last 0 (omega arith))
no-zero-decimal (suc n) = leads-no-zero (decimal (suc n)) (leads-decimal (suc n) (omega arith))

pub length-decimal : (n : ℕ) → 1 ≤ length (decimal n)
length-decimal = by_digits (λ n. 1 ≤ length (decimal n))
    (λ n h. rw (decimal-last n h) (omega arith))
    (λ a d h k i. rw (decimal-more a d h k, length-append) (omega arith))

-- digits without leading zeros are those of their number
pub decimal-of : (s : Bytes) → 1 ≤ length s → all_of digit s ≡ true → no_leading_zero s ≡ true → decimal (number_from 0 s) ≡ s
decimal-of [] l e z = absurd (omega arith)
decimal-of (x ∷ []) l e z =
    let r = digit-range x (all-parts digit x [] e).0 in
    decimal-last (0 * 10 + (x - 48)) (omega arith) ∙ ap (λ (w : ℕ). w ∷ []) (omega arith)
decimal-of (x ∷ y ∷ s) l e z =
    let (p, q) = all-parts digit x (y ∷ s) e in
    let r = digit-range x p in
    let n = eqb-false x 48 (not-true _ z) in
    let a = 0 * 10 + (x - 48) in
    let pos : 0 < a = omega arith in
    decimal-number a (y ∷ s) pos q ∙ rw (decimal-last a (omega arith)) (ap (λ (w : ℕ). w ∷ y ∷ s) (omega arith))

pub int-exact : (s : Bytes) (n : ℕ) → (read_int s ≡ some n) ↔ ((n ≤ largest_int) × (s ≡ decimal n))
unfolding read_int
int-exact s n = (sound, λ h. rw h.1 (complete h.0))
  where
    sound : read_int s ≡ some n → (n ≤ largest_int) × (s ≡ decimal n)
    sound e =
        let (t, v) = condition {a = number_from 0 s} e in
        let (t₁, fits) = parts _ _ t in
        let (t₂, lead) = parts _ _ t₁ in
        let (long, digits) = parts _ _ t₂ in
        (rw v at (leb-true (number_from 0 s) largest_int fits), sym (decimal-of s (leb-true 1 (length s) long) digits lead) ∙ ap decimal v)

    complete : n ≤ largest_int → read_int (decimal n) ≡ some n
    complete h = rw (number-decimal n, le-leb 1 (length (decimal n)) (length-decimal n), digits_decimal n, no-zero-decimal n, le-leb n largest_int h)
