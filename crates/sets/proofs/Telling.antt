-- Which sets changed from one table to another, and how marks of them add up. Assumes nothing.
use Prim.Native.Nat.{ℕ, suc, ◌+◌, ◌-◌, ◌*◌, ◌/◌, ◌%◌, ◌≤◌, ◌<◌}
use mathlib.Core.Path.{◌≡◌, refl, sym, ap, ap₂, ◌∙◌}
use mathlib.Core.Logic.{◌⊎◌, ⊎_elim}
use mathlib.Core.Bool.{Bool, true, false, not, ◌||◌, beq, or-false, true≢false}
use mathlib.Core.List.{List}
use native.Mathlib.Nat.{zero-add}
use native.Mathlib.Decide.{ℕ_discrete, dec_lt}
use native.Mathlib.Omega.{arith}
use lib.Dec.{eqb}
use lib.ListN.{length, get_or, take, drop}
use borrow.Author.Tests.{eq-eqb, ne_eqb}
use borrow.Rule.Slice.PartMut.{put_mid}
use Rattle.model.specs.Notation.{if◌then◌otherwise◌}
use Rattle.bits.specs.Bits.{bit, member, holds, differ, count_below}
use Rattle.bits.proofs.Bits.{bit-none}
use Rattle.bits.proofs.Sets.{member-part, same-beq}
use Rattle.bits.proofs.Counts.{num, any-ext, any_at, count-suc, count-rest}
use Rattle.sets.specs.Settled.{unlike, MarksChanged, Stored}
use Rattle.sets.proofs.LentSets.{holds-put, holds-past, holds_kept}

-- holder k's words are the same in two tables
abbrev pub SameAt : List ℕ → List ℕ → ℕ → Type 0
SameAt t u k = (j : ℕ) → j / 4 ≡ k → get_or u j 0 ≡ get_or t j 0

pub unlike-same : (t u : List ℕ) (k : ℕ) → SameAt t u k → unlike t u k ≡ false
unfolding unlike
unlike-same t u k same =
    any_at 256 (λ p. not (beq (holds t k p) (holds u k p))) (λ p l. same-beq (holds t k p) (holds u k p) (sym (holds_kept t u k p l same)))

-- there is no set past the table's end
pub unlike-past : (t u : List ℕ) (k : ℕ) → length t ≤ 4 * k → length u ≡ length t → unlike t u k ≡ false
unfolding unlike
unlike-past t u k past long =
    any_at 256 (λ p. not (beq (holds t k p) (holds u k p)))
    (λ p l. same-beq (holds t k p) (holds u k p) (holds-past t k p past ∙ sym (holds-past u k p (omega arith))))

unlike-by : (t u v w : List ℕ) (k : ℕ) → ((p : ℕ) → p < 256 → holds t k p ≡ holds v k p) → ((p : ℕ) → p < 256 → holds u k p ≡ holds w k p) → unlike t u k ≡ unlike v w k
unfolding unlike
unlike-by t u v w k a b =
    any-ext 256 (λ p. not (beq (holds t k p) (holds u k p))) (λ p. not (beq (holds v k p) (holds w k p))) (λ p l. ap₂ (λ (x y : Bool). not (beq x y)) (a p l) (b p l))

-- what the code compares: the part that is lent, before and after
pub unlike-put : (t s : List ℕ) (k : ℕ) → 4 * k + 4 ≤ length t → length s ≡ 4
    → differ 256 (take (4 * k + 4 - 4 * k) (drop (4 * k) t)) s ≡ unlike t (put_mid (4 * k) (4 * k + 4 - 4 * k) t s) k
unfolding differ unlike
unlike-put t s k few long =
    any-ext 256 _ (λ p. not (beq (holds t k p) (holds (put_mid (4 * k) (4 * k + 4 - 4 * k) t s) k p)))
    (λ p h. ap₂ (λ (a b : Bool). not (beq a b)) (member-part t k p h) (sym (holds-put t s k few long p h)))

pub or_swap : (a b : Bool) → (a || b) ≡ (b || a)
or_swap true true = refl
or_swap true false = refl
or_swap false true = refl
or_swap false false = refl

-- ---- marks

pub told_none : (m t : List ℕ) → MarksChanged m m t t
told_none m t = record { marks = λ k. sym (ap (λ (b : Bool). member m k || b) (unlike-same t t k (λ j e. refl)) ∙ or-false (member m k)) }

-- one after another, where each holder's words stay on one of the two ways
pub told_more : {m m₁ m₂ t t₁ t₂ : List ℕ} → MarksChanged m m₁ t t₁ → MarksChanged m₁ m₂ t₁ t₂ → ((k : ℕ) → SameAt t t₁ k ⊎ SameAt t₁ t₂ k) → MarksChanged m m₂ t t₂
told_more {m} {m₁} {m₂} {t} {t₁} {t₂} a b same = record { marks = λ k. more k }
  where
    more : (k : ℕ) → member m₂ k ≡ (member m k || unlike t t₂ k)
    more k =
        b.marks k ∙ ap (λ (x : Bool). x || unlike t₁ t₂ k) (a.marks k)
        ∙ ⊎_elim
        (λ s. ap₂ (λ (x y : Bool). member m k || x || y) (unlike-same t t₁ k s) (unlike-by t₁ t₂ t t₂ k (λ p l. holds_kept t t₁ k p l s) (λ p l. refl))
        ∙ ap (λ (x : Bool). x || unlike t t₂ k) (or-false (member m k)))
        (λ s. ap₂ (λ (x y : Bool). member m k || x || y) (unlike-by t t₁ t t₂ k (λ p l. refl) (λ p l. sym (holds_kept t₁ t₂ k p l s))) (unlike-same t₁ t₂ k s)
        ∙ or-false (member m k || unlike t t₂ k))
        (same k)

-- one set is stored, and its holder marked if it changed
module _ {own slots t t' : List ℕ} {k mask : ℕ} (stored : Stored own slots k mask t t') where
  pub others_same : (i : ℕ) → (i ≡ k → ⊥) → SameAt t t' i
  others_same i n j e = stored.others j (λ x. n (sym e ∙ x))

  pub told-changed : (m m' : List ℕ) → unlike t t' k ≡ true → ((i : ℕ) → member m' i ≡ (member m i || eqb i k)) → MarksChanged m m' t t'
  told-changed m m' on put = record { marks = λ i. put i ∙ ap (λ (b : Bool). member m i || b) (go i (ℕ_discrete i k)) }
    where
      go : (i : ℕ) → Dec (i ≡ k) → eqb i k ≡ unlike t t' i
      go i (yes e) = eq-eqb i k e ∙ sym (ap (unlike t t') e ∙ on)
      go i (no n) = ne_eqb i k n ∙ sym (unlike-same t t' i (others_same i n))

  pub told-unchanged : (m : List ℕ) → unlike t t' k ≡ false → MarksChanged m m t t'
  told-unchanged m off = record { marks = λ i. sym (ap (λ (b : Bool). member m i || b) (go i (ℕ_discrete i k)) ∙ or-false (member m i)) }
    where
      go : (i : ℕ) → Dec (i ≡ k) → unlike t t' i ≡ false
      go i (yes e) = ap (unlike t t') e ∙ off
      go i (no n) = unlike-same t t' i (others_same i n)

  -- a set that changed lies in the table
  pub changed-lt : unlike t t' k ≡ true → length t' ≡ length t → 4 * k < length t
  changed-lt on long = go (dec_lt (4 * k) (length t))
    where
      go : Dec (4 * k < length t) → 4 * k < length t
      go (yes l) = l
      go (no n) = absurd (true≢false (sym on ∙ unlike-past t t' k (omega arith) long))

-- ---- how many changed where one set is stored

-- no number passes but i
count-one : (n i : ℕ) (f : ℕ → Bool) → i < n → ((j : ℕ) → (j ≡ i → ⊥) → f j ≡ false) → count_below n f ≡ num (f i)
unfolding count_below
count-one n i f l none =
    count-rest (suc i) n f (omega arith) (λ j a b. none j (λ e. omega arith)) ∙ count-suc i f
    ∙ ap (λ (m : ℕ). m + num (f i)) (count-rest 0 i f (omega arith) (λ j a b. none j (λ e. omega arith))) ∙ zero-add (num (f i))

module _ {own slots t t' : List ℕ} {k mask : ℕ} (stored : Stored own slots k mask t t') (long : length t' ≡ length t) (few : length t ≤ 1024) where
  changed-count : Dec (k < 256) → count_below 256 (unlike t t') ≡ num (unlike t t' k)
  unfolding count_below
  changed-count (yes l) = count-one 256 k (unlike t t') l (λ j n. unlike-same t t' j (others_same stored j n))
  changed-count (no n) =
      let off = unlike-past t t' k (omega arith) long in
      count-rest 0 256 (unlike t t') (omega arith) (λ j a b. unlike-same t t' j (others_same stored j (λ e. omega arith))) ∙ ap num (sym off)

  -- the ones of a word that marks the holder
  pub counted-alone : (w : ℕ) (b : Bool) → b ≡ unlike t t' k → ((j : ℕ) → bit w j ≡ (if eqb j (k % 64) then b otherwise bit 0 j)) → count_below 64 (bit w) ≡ count_below 256 (unlike t t')
  counted-alone w b is put =
      count-one 64 (k % 64) (bit w) (omega arith) (λ j n. put j ∙ ap (λ (x : Bool). if x then b otherwise bit 0 j) (ne_eqb j (k % 64) n) ∙ bit-none j)
      ∙ ap num (put (k % 64) ∙ ap (λ (x : Bool). if x then b otherwise bit 0 (k % 64)) (eq-eqb (k % 64) (k % 64) refl) ∙ is) ∙ sym (changed-count (dec_lt k 256))
