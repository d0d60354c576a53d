-- The lowest bit of a word, and walks over the bits of a word from the lowest up. Assumes nothing.
use Prim.Native.Nat.{ℕ, zero, suc, ◌+◌, ◌-◌, ◌*◌, ◌/◌, ◌%◌, ◌^◌, ◌≤◌, ◌<◌}
use mathlib.Core.Path.{◌≡◌, refl, sym, ap, ap₂, ◌∙◌}
use mathlib.Core.Logic.{◌⊎◌, inl, inr, ⊎_elim}
use mathlib.Core.Bool.{Bool, true, false, not, ◌&&◌, ◌||◌, and-true, and-false}
use mathlib.Core.List.{List}
use native.Mathlib.Decide.{ℕ_discrete, dec_lt}
use native.Mathlib.Nat.{eq-or-lt_of_le, zero-lt-suc, pow-suc, mul_assoc, mul-div_cancel, mul-mod_left}
use native.Mathlib.Omega.{arith}
use lib.Count.{under, count_trailing_zeros, trailing_of_zero, trailing_le}
use lib.Dec.{eqb, leb, leb-zero, leb-suc-zero, leb-suc-suc}
use lib.ListN.{get_or, length, take, drop, length-drop}
use lib.Seq.{get_or-drop, take_all}
use Rattle.std.specs.List.{AllWithin, HoldsAt}
use lib.Pow.{shr-shr, shr_lt, shl_exact}
use borrow.Author.Tests.{eq-eqb, ne_eqb, leb-true, le-leb}
use Rattle.model.proofs.Options.{parts, both}
use Rattle.model.proofs.Lists.{same_truth, or_cases, or_left, or_right, below_in, count-more}
use Rattle.bits.specs.Bits.{odd, bit, member, any_below, count_below}
use Rattle.bits.specs.Lowest.{Lowest, FirstFrom}
use Rattle.bits.proofs.Bits.{bit-zero, bit-suc, bit-none, bit-ext}
use Rattle.bits.proofs.Counts.{any_at, any-find, find-any}

-- ---- what `trailing_zeros` gives

digit-cases : (n : ℕ) → (n % 2 ≡ 0) ⊎ (n % 2 ≡ 1)
digit-cases n = go (n % 2) (omega arith)
  where
    go : (d : ℕ) → d < 2 → (d ≡ 0) ⊎ (d ≡ 1)
    go zero h = inl refl
    go (suc zero) h = inr refl
    go (suc (suc d)) h = absurd (omega arith)

trailing_even : (k n : ℕ) → n % 2 ≡ 0 → count_trailing_zeros (suc k) n ≡ suc (count_trailing_zeros k (n / 2))
unfolding count_trailing_zeros
trailing_even k n e = ap (λ (d : ℕ). under d (count_trailing_zeros k (n / 2))) e

trailing_odd : (k n : ℕ) → n % 2 ≡ 1 → count_trailing_zeros (suc k) n ≡ 0
unfolding count_trailing_zeros
trailing_odd k n e = ap (λ (d : ℕ). under d (count_trailing_zeros k (n / 2))) e

odd-by : (n d : ℕ) → n % 2 ≡ d → bit n 0 ≡ eqb d 1
unfolding odd
odd-by n d e = bit-zero n ∙ ap (λ (x : ℕ). eqb x 1) e

pub trailing-lower : (k n j : ℕ) → j < count_trailing_zeros k n → bit n j ≡ false
unfolding count_trailing_zeros
trailing-lower zero n j h = absurd (omega arith)
trailing-lower (suc k) n zero h = ⊎_elim (odd-by n 0) (λ e. absurd (omega (arith, trailing_odd k n e))) (digit-cases n)
trailing-lower (suc k) n (suc j) h = ⊎_elim
    (λ e. bit-suc n j ∙ trailing-lower k (n / 2) j (omega (arith, trailing_even k n e)))
    (λ e. absurd (omega (arith, trailing_odd k n e)))
    (digit-cases n)

pub trailing-held : (k n : ℕ) → count_trailing_zeros k n < k → bit n (count_trailing_zeros k n) ≡ true
trailing-held zero n h = absurd (omega arith)
trailing-held (suc k) n h = ⊎_elim
    (λ e. ap (bit n) (trailing_even k n e) ∙ bit-suc n (count_trailing_zeros k (n / 2)) ∙ trailing-held k (n / 2) (omega (arith, trailing_even k n e)))
    (λ e. ap (bit n) (trailing_odd k n e) ∙ odd-by n 1 e)
    (digit-cases n)

none-set : (w : ℕ) → w < 2 ^ 64 → count_trailing_zeros 64 w ≡ 64 → w ≡ 0
none-set w fit e = bit-ext 64 w 0 fit (omega arith) (λ i l. trailing-lower 64 w i (omega arith) ∙ sym (bit-none i))

pub lowest_by : (w : ℕ) → w < 2 ^ 64 → Lowest w (count_trailing_zeros 64 w)
lowest_by w fit = record {
  lower = trailing-lower 64 w;
  held = λ n. ⊎_elim (λ e. absurd (n (none-set w fit e))) (λ l. (l, trailing-held 64 w l)) (eq-or-lt_of_le (trailing_le 64 w));
  none = λ e. ap (count_trailing_zeros 64) e ∙ trailing_of_zero 64;
}

-- ---- the bits from some number on, as `(w >> i) << i` gives them

shifted-bit : (i a j : ℕ) → bit (a * 2 ^ i) j ≡ (leb i j && bit a (j - i))
unfolding odd
shifted-bit zero a j =
    let e : a * 1 ≡ a = omega arith in
    let z : j ≡ j - 0 = omega arith in
    ap₂ (λ (x y : ℕ). bit x y) e z ∙ sym (ap (λ (b : Bool). b && bit a (j - 0)) (leb-zero j))
shifted-bit (suc i) a zero =
    let e : (a * 2 ^ suc i) % 2 ≡ 0 = ap (λ (x : ℕ). a * x % 2) (pow-suc 2 i) ∙ ap (λ (x : ℕ). x % 2) (sym (mul_assoc a (2 ^ i) 2)) ∙ mul-mod_left (a * 2 ^ i) 2 in
    bit-zero (a * 2 ^ suc i) ∙ ap (λ (x : ℕ). eqb x 1) e ∙ sym (ap (λ (b : Bool). b && bit a (0 - suc i)) (leb-suc-zero i))
shifted-bit (suc i) a (suc j) =
    let e : a * 2 ^ suc i / 2 ≡ a * 2 ^ i =
    ap (λ (x : ℕ). a * x / 2) (pow-suc 2 i) ∙ ap (λ (x : ℕ). x / 2) (sym (mul_assoc a (2 ^ i) 2)) ∙ mul-div_cancel (a * 2 ^ i) (zero-lt-suc 1) in
    let d : j - i ≡ suc j - suc i = omega arith in
    bit-suc (a * 2 ^ suc i) j ∙ ap (λ (x : ℕ). bit x j) e ∙ shifted-bit i a j ∙ ap₂ (λ (b : Bool) (x : ℕ). b && bit a x) (sym (leb-suc-suc i j)) d

pub bit-from : (w i j : ℕ) → w < 2 ^ 64 → i < 64 → bit (w / 2 ^ i * 2 ^ i % 2 ^ 64) j ≡ (bit w j && leb i j)
unfolding bit
bit-from w i j fit h =
    let n : 64 - i + i ≡ 64 = omega arith in
    ap (λ (x : ℕ). bit x j) (shl_exact {a = w / 2 ^ i} (64 - i) i 64 (shr_lt (64 - i) i (rw n fit)) (omega arith)) ∙ shifted-bit i (w / 2 ^ i) j ∙ go (leb i j) refl
  where
    go : (b : Bool) → leb i j ≡ b → (b && bit (w / 2 ^ i) (j - i)) ≡ (bit w j && b)
    go true e =
        let l = leb-true i j e in
        let s : i + (j - i) ≡ j = omega arith in
        ap odd (shr-shr w i (j - i)) ∙ ap (bit w) s ∙ sym (and-true (bit w j))
    go false e = sym (and-false (bit w j))

-- ---- a walk over the bits of a word: v is w without one of its bits, i

module _ (w v i : ℕ) (on : bit w i ≡ true) (rest : (j : ℕ) → bit v j ≡ (bit w j && not (eqb j i))) where
  -- fewer are left
  pub fewer-left : i < 64 → count_below 64 (bit v) < count_below 64 (bit w)
  unfolding count_below
  fewer-left l =
      count-more (bit v) (bit w) (λ j e. (parts (bit w j) (not (eqb j i)) (sym (rest j) ∙ e)).0) (below_in 64 i l)
      (rest i ∙ ap₂ (λ (a b : Bool). a && not b) on (eq-eqb i i refl)) on

  -- what passes in w is i, or passes in what is left
  pub any_left : (n : ℕ) (f : ℕ → Bool) → i < n → any_below n (λ q. bit w q && f q) ≡ (f i || any_below n (λ q. bit v q && f q))
  any_left n f l = same_truth (any_below n (λ q. bit w q && f q)) (f i || any_below n (λ q. bit v q && f q))
      (λ e.
      let r = any-find n (λ q. bit w q && f q) e in
      let s = parts (bit w r.0) (f r.0) r.2 in
      by r.0 r.1 s.0 s.1 (ℕ_discrete r.0 i))
      (λ e. ⊎_elim (λ y. find-any n (λ q. bit w q && f q) i l (both on y))
      (λ y.
      let r = any-find n (λ q. bit v q && f q) y in
      let s = parts (bit v r.0) (f r.0) r.2 in
      find-any n (λ q. bit w q && f q) r.0 r.1 (both (parts (bit w r.0) (not (eqb r.0 i)) (sym (rest r.0) ∙ s.0)).0 s.1))
      (or_cases (f i) (any_below n (λ q. bit v q && f q)) e))
    where
      by : (q : ℕ) → q < n → bit w q ≡ true → f q ≡ true → Dec (q ≡ i) → (f i || any_below n (λ q. bit v q && f q)) ≡ true
      by q h b y (yes e) = or_left (f i) (any_below n (λ q. bit v q && f q)) (ap f (sym e) ∙ y)
      by q h b y (no d) = or_right (f i) (any_below n (λ q. bit v q && f q))
          (find-any n (λ q. bit v q && f q) q h (both (rest q ∙ both b (ap not (ne_eqb q i d))) y))

-- none is left
pub none_left : (w n : ℕ) (f : ℕ → Bool) → w ≡ 0 → any_below n (λ q. bit w q && f q) ≡ false
none_left w n f e = any_at n (λ q. bit w q && f q) (λ q l. ap (λ (b : Bool). b && f q) (ap (λ (x : ℕ). bit x q) e ∙ bit-none q))

-- ---- the lowest number of a set from some number on

member-at : (s : List ℕ) (at l : ℕ) → l < 64 → member s (64 * at + l) ≡ bit (get_or s at 0) l
unfolding member
member-at s at l h =
    let d : (64 * at + l) / 64 ≡ at = omega arith in
    let r : (64 * at + l) % 64 ≡ l = omega arith in
    ap₂ (λ (x y : ℕ). bit (get_or s x 0) y) d r

module _ (s : List ℕ) (i at : ℕ) (passed : (j : ℕ) → i ≤ j → j < 64 * at → member s j ≡ false) where
  -- in the word `at`, l is the lowest from i on
  passed_on : (l : ℕ) → l ≤ 64 → ((j : ℕ) → j < l → i ≤ 64 * at + j → bit (get_or s at 0) j ≡ false) → (j : ℕ) → i ≤ j → j < 64 * at + l → member s j ≡ false
  passed_on l h low j a b = go (dec_lt j (64 * at))
    where
      go : Dec (j < 64 * at) → member s j ≡ false
      go (yes y) = passed j a y
      go (no n) =
          let e : 64 * at + (j - 64 * at) ≡ j = omega arith in
          ap (member s) (sym e) ∙ member-at s at (j - 64 * at) (omega arith) ∙ low (j - 64 * at) (omega arith) (omega arith)

  pub first_found : (l : ℕ) → at < length s → l < 64 → bit (get_or s at 0) l ≡ true → i ≤ 64 * at + l
      → ((j : ℕ) → j < l → i ≤ 64 * at + j → bit (get_or s at 0) j ≡ false) → FirstFrom s i (64 * at + l)
  first_found l few h on after low = record {
    within = omega arith;
    lower = passed_on l (omega arith) low;
    held = λ b. (after, member-at s at l h ∙ on);
  }

  -- the word `at` has none from i on
  pub passed-word : ((j : ℕ) → j < 64 → i ≤ 64 * at + j → bit (get_or s at 0) j ≡ false) → (j : ℕ) → i ≤ j → j < 64 * (at + 1) → member s j ≡ false
  passed-word low j a b = passed_on 64 (omega arith) low j a (omega arith)

  -- and so on behind it
  pub first-after : (r : ℕ) → i ≤ 64 * at → FirstFrom s (64 * at) r → FirstFrom s i r
  first-after r l f = record {
    within = f.within;
    lower = λ j a b. go j a b (dec_lt j (64 * at));
    held = λ b. let y = f.held b in (omega (arith, y.0), y.1);
  }
    where
      go : (j : ℕ) → i ≤ j → j < r → Dec (j < 64 * at) → member s j ≡ false
      go j a b (yes y) = passed j a y
      go j a b (no n) = f.lower j (omega arith) b

  pub first-none : length s ≤ at → FirstFrom s i (64 * length s)
  first-none l = record { within = omega arith; lower = λ j a b. passed j a (omega arith); held = λ b. absurd (omega arith) }

-- the words from word k on: the first that is not 0, or none
pub tail-part : (k : ℕ) (s : List ℕ) → take (length s - k) (drop k s) ≡ drop k s
tail-part k s = take_all (length s - k) (drop k s) (omega (arith, length-drop k s))

module _ (s : List ℕ) (k : ℕ) where
  zeros-passed : (n : ℕ) → AllWithin (λ x. x ≡ 0) (drop k s) 0 n → (j : ℕ) → 64 * k ≤ j → j < 64 * (k + n) → member s j ≡ false
  unfolding member
  zeros-passed n zeros j a b =
      let d : k + (j / 64 - k) ≡ j / 64 = omega arith in
      ap (λ (w : ℕ). bit w (j % 64)) (ap (λ (x : ℕ). get_or s x 0) (sym d) ∙ sym (get_or-drop k s (j / 64 - k) 0) ∙ zeros (j / 64 - k) 0 (omega arith) (omega arith)) ∙ bit-none (j % 64)

  pub word-found : (i l : ℕ) → (i < length (drop k s)) × HoldsAt (λ x. x ≡ 0 → ⊥) (drop k s) i × AllWithin (λ x. x ≡ 0) (drop k s) 0 i → Lowest (get_or s (k + i) 0) l
      → FirstFrom s (64 * k) (64 * (k + i) + l)
  word-found i l (h, some, zeros) low =
      let held = low.held (λ e. some 0 (get_or-drop k s i 0 ∙ e)) in
      first_found s (64 * k) (k + i) (zeros-passed i zeros) l (omega (arith, length-drop k s)) held.0 held.1 (omega arith) (λ j m a. low.lower j m)

  pub words-none : k ≤ length s → AllWithin (λ x. x ≡ 0) (drop k s) 0 (length (drop k s)) → FirstFrom s (64 * k) (64 * length s)
  words-none h zeros = first-none s (64 * k) (length s) (λ j a b. zeros-passed (length (drop k s)) zeros j a (omega (arith, length-drop k s))) (omega arith)

-- v has the bits from i on of the word of i
module _ (s : List ℕ) (i v : ℕ) (part : (j : ℕ) → bit v j ≡ (bit (get_or s (i / 64) 0) j && leb (i % 64) j)) where
  passed_none : (j : ℕ) → i ≤ j → j < 64 * (i / 64) → member s j ≡ false
  passed_none j a b = absurd (omega arith)

  not_in : (j : ℕ) → i ≤ 64 * (i / 64) + j → bit v j ≡ false → bit (get_or s (i / 64) 0) j ≡ false
  not_in j a e = sym (and-true (bit (get_or s (i / 64) 0) j)) ∙ ap (λ (b : Bool). bit (get_or s (i / 64) 0) j && b) (sym (le-leb (i % 64) j (omega arith))) ∙ sym (part j) ∙ e

  pub found_here : (l : ℕ) → i / 64 < length s → Lowest v l → (v ≡ 0 → ⊥) → FirstFrom s i (64 * (i / 64) + l)
  found_here l few low some =
      let h = low.held some in
      let b = parts (bit (get_or s (i / 64) 0) l) (leb (i % 64) l) (sym (part l) ∙ h.1) in
      first_found s i (i / 64) passed_none l few h.0 b.0 (omega (arith, leb-true (i % 64) l b.1)) (λ j m a. not_in j a (low.lower j m))

  pub found-behind : (r : ℕ) → v ≡ 0 → FirstFrom s (64 * (i / 64 + 1)) r → FirstFrom s i r
  found-behind r e f =
      first-after s i (i / 64 + 1) (passed-word s i (i / 64) passed_none (λ j m a. not_in j a (ap (λ (w : ℕ). bit w j) e ∙ bit-none j))) r (omega arith) f

-- a number behind all the words of a set
pub found_none : (s : List ℕ) (i : ℕ) → length s ≤ i / 64 → FirstFrom s i (64 * length s)
found_none s i l = first-none s i (i / 64) (λ j a b. absurd (omega arith)) l
