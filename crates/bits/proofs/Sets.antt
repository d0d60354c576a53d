-- Laws of sets in words. Assumes nothing.
use Prim.Native.Nat.{ℕ, zero, suc, ◌+◌, ◌-◌, ◌*◌, ◌/◌, ◌%◌, ◌^◌, ◌<◌}
use mathlib.Core.Path.{◌≡◌, refl, sym, ap, ap₂, ◌∙◌}
use mathlib.Core.Bool.{Bool, true, false, not, ◌&&◌, ◌||◌, beq, true≢false, or-false, and-true}
use mathlib.Core.List.{List, [], ◌∷◌}
use native.Mathlib.Decide.{ℕ_discrete}
use native.Mathlib.Omega.{arith}
use lib.Bits.{bit_or}
use lib.Dec.{eqb}
use lib.ListN.{length, get_or, take, drop, set, drop_of_length-le}
use lib.Seq.{get_or-take, get_or-drop, sets-eq, get_or-set_same, get_or-set_other, ext_get_or}
use lib.Pointwise.{pointwise}
use Rattle.std.proofs.lemmas.Slice.Eq.{bytes_eq-Decides}
use borrow.Author.Tests.{ne_eqb}
use Rattle.bits.specs.Bits.{bit, member, holds, differ}
use Rattle.bits.proofs.Bits.{same_test, bit-or, bit-none, bit-ext}
use Rattle.bits.proofs.Counts.{any_at, any_none}

-- a set's four words, one after another
pub four : (P : ℕ → Type 0) → P 0 → P 1 → P 2 → P 3 → (j : ℕ) → j < 4 → P j
four P a b c d zero h = a
four P a b c d (suc zero) h = b
four P a b c d (suc (suc zero)) h = c
four P a b c d (suc (suc (suc zero))) h = d
four P a b c d (suc (suc (suc (suc j)))) h = absurd (omega arith)

-- words that are joined one by one are sets that are joined
pub member-or : (r a b : List ℕ) → ((j : ℕ) → j < 4 → get_or r j 0 ≡ bit_or (get_or a j 0) (get_or b j 0))
    → (p : ℕ) → p < 256 → member r p ≡ (member a p || member b p)
unfolding member
member-or r a b e p h = ap (λ (w : ℕ). bit w (p % 64)) (e (p / 64) (omega arith)) ∙ bit-or (get_or a (p / 64) 0) (get_or b (p / 64) 0) (p % 64)

-- holder k's four words, as the code lends them; and its pair p as a number of the whole list
pub member-part : (t : List ℕ) (k p : ℕ) → p < 256 → member (take (4 * k + 4 - 4 * k) (drop (4 * k) t)) p ≡ holds t k p
unfolding member holds
member-part t k p h =
    ap (λ (w : ℕ). bit w (p % 64)) (get_or-take (4 * k + 4 - 4 * k) (drop (4 * k) t) (p / 64) 0 (omega arith) ∙ get_or-drop (4 * k) t (p / 64) 0)

pub holds-member : (t : List ℕ) (k p : ℕ) → p < 256 → member t (256 * k + p) ≡ holds t k p
unfolding member holds
holds-member t k p h =
    let d : (256 * k + p) / 64 ≡ 4 * k + p / 64 = omega arith in
    let r : (256 * k + p) % 64 ≡ p % 64 = omega arith in
    ap₂ (λ (x y : ℕ). bit (get_or t x 0) y) d r

-- the empty set
pub member-none : (p : ℕ) → p < 256 → member (0 ∷ 0 ∷ 0 ∷ 0 ∷ []) p ≡ false
unfolding member
member-none p h =
    ap (λ (w : ℕ). bit w (p % 64)) (four (λ (j : ℕ). ◌≡◌ {A = ℕ} (get_or (0 ∷ 0 ∷ 0 ∷ 0 ∷ []) j 0) 0) refl refl refl refl (p / 64) (omega arith)) ∙ bit-none (p % 64)

-- a set that is stored word by word
pub stored4 : (s : List ℕ) (a b c d : ℕ) → length s ≡ 4 → set (set (set (set s 0 a) 1 b) 2 c) 3 d ≡ a ∷ b ∷ c ∷ d ∷ []
stored4 s a b c d h =
    sets-eq (a ∷ b ∷ c ∷ d ∷ []) s 0 (omega arith) ∙ ap (λ (r : List ℕ). a ∷ b ∷ c ∷ d ∷ r) (drop_of_length-le s {i = 4} (omega arith))

-- the word of number k is stored anew
module _ (m : List ℕ) (k v : ℕ) (within : k < 64 * length m) where
  -- the word of number i is that word, or another
  pub member-stored : (f : Bool → Bool → Bool) → ((b : Bool) → f b false ≡ b) → ((j : ℕ) → bit v j ≡ f (bit (get_or m (k / 64) 0) j) (eqb j (k % 64)))
      → (i : ℕ) → Dec (i / 64 ≡ k / 64) → member (set m (k / 64) v) i ≡ f (member m i) (eqb i k)
  unfolding member
  member-stored f same one i (yes e) =
      let both : eqb (i % 64) (k % 64) ≡ eqb i k = same_test (i % 64) (k % 64) i k (λ q. omega arith) (λ q. omega arith) in
      ap (λ (j : ℕ). bit (get_or (set m (k / 64) v) j 0) (i % 64)) e
      ∙ ap (λ (w : ℕ). bit w (i % 64)) (get_or-set_same m (k / 64) v 0 (omega arith))
      ∙ one (i % 64)
      ∙ ap₂ (λ (j : ℕ) (b : Bool). f (bit (get_or m j 0) (i % 64)) b) (sym e) both
  member-stored f same one i (no n) =
      ap (λ (w : ℕ). bit w (i % 64)) (get_or-set_other m (k / 64) (i / 64) v 0 n)
      ∙ sym (ap (f (bit (get_or m (i / 64) 0) (i % 64))) (ne_eqb i k (λ q. n (ap (λ (x : ℕ). x / 64) q))) ∙ same (bit (get_or m (i / 64) 0) (i % 64)))

  pub member-with : ((j : ℕ) → bit v j ≡ (bit (get_or m (k / 64) 0) j || eqb j (k % 64))) → (i : ℕ) → member (set m (k / 64) v) i ≡ (member m i || eqb i k)
  member-with one i = member-stored (λ a b. a || b) or-false one i (ℕ_discrete (i / 64) (k / 64))

  pub member-without : ((j : ℕ) → bit v j ≡ (bit (get_or m (k / 64) 0) j && not (eqb j (k % 64)))) → (i : ℕ) → member (set m (k / 64) v) i ≡ (member m i && not (eqb i k))
  member-without one i = member-stored (λ a b. a && not b) and-true one i (ℕ_discrete (i / 64) (k / 64))

-- ---- sets that differ

beq_same : (a b : Bool) → not (beq a b) ≡ false → a ≡ b
beq_same true true e = refl
beq_same true false e = absurd (true≢false e)
beq_same false true e = absurd (true≢false e)
beq_same false false e = refl

pub same-beq : (a b : Bool) → a ≡ b → not (beq a b) ≡ false
same-beq true true e = refl
same-beq true false e = absurd (true≢false e)
same-beq false true e = absurd (true≢false (sym e))
same-beq false false e = refl

-- what is false together is equal
pub same_by : (a b : Bool) → (a ≡ false → b ≡ false) → (b ≡ false → a ≡ false) → a ≡ b
same_by true true f g = refl
same_by true false f g = g refl
same_by false true f g = sym (f refl)
same_by false false f g = refl

module _ (s t : List ℕ) where
  -- sets of the same numbers below 64 n have the same first n words
  pub same-sets : (n : ℕ) → ((j : ℕ) → get_or s j 0 < 2 ^ 64) → ((j : ℕ) → get_or t j 0 < 2 ^ 64) → ((p : ℕ) → p < 64 * n → member s p ≡ member t p)
      → (j : ℕ) → j < n → get_or s j 0 ≡ get_or t j 0
  unfolding member
  same-sets n fs ft e j l =
      bit-ext 64 (get_or s j 0) (get_or t j 0) (fs j) (ft j) (λ i m.
      let d : (64 * j + i) / 64 ≡ j = omega arith in
      let r : (64 * j + i) % 64 ≡ i = omega arith in
      ap₂ (λ (x y : ℕ). bit (get_or s x 0) y) (sym d) (sym r) ∙ e (64 * j + i) (omega arith) ∙ ap₂ (λ (x y : ℕ). bit (get_or t x 0) y) d r)

  pub differ-none : (n : ℕ) → differ n s t ≡ false → (p : ℕ) → p < n → member s p ≡ member t p
  unfolding differ
  differ-none n e p h = beq_same (member s p) (member t p) (any_none n (λ p. not (beq (member s p) (member t p))) e p h)

  pub none_differ : (n : ℕ) → ((p : ℕ) → p < n → member s p ≡ member t p) → differ n s t ≡ false
  unfolding differ
  none_differ n e = any_at n (λ p. not (beq (member s p) (member t p))) (λ p h. same-beq (member s p) (member t p) (e p h))

  -- sets of four words that are not the same list of words
  pub lists-differ : length s ≡ 4 → length t ≡ 4 → ((j : ℕ) → get_or s j 0 < 2 ^ 64) → ((j : ℕ) → get_or t j 0 < 2 ^ 64) → not (pointwise eqb s t) ≡ differ 256 s t
  lists-differ ls lt fs ft = go (pointwise eqb s t) (bytes_eq-Decides s t) (differ 256 s t) refl
    where
      go : (b : Bool) → (b ≡ true → s ≡ t) × (s ≡ t → b ≡ true) → (d : Bool) → differ 256 s t ≡ d → not b ≡ d
      go true e true f = absurd (true≢false (sym f ∙ none_differ 256 (λ p h. ap (λ (l : List ℕ). member l p) (e.0 refl))))
      go true e false f = refl
      go false e true f = refl
      go false e false f = absurd (true≢false (sym (e.1 (ext_get_or 0 s t (ls ∙ sym lt) (λ j l. same-sets 4 fs ft (differ-none 256 f) j (omega arith))))))
