-- The words of a session. Assumes nothing.
use Prim.Native.Nat.{ℕ, ◌+◌, ◌*◌, ◌/◌, ◌%◌, ◌≤◌, ◌<◌}
use native.Mathlib.Omega.{arith}
use native.Mathlib.Decide.{ℕ_discrete, dec_lt}
use mathlib.Core.Path.{◌≡◌, refl, sym, ap, ap₂, ◌∙◌}
use mathlib.Core.Bool.{Bool, true, false, not, ◌&&◌, beq}
use mathlib.Core.List.{List, [], ◌∷◌}
use mathlib.Core.Option as model
use lib.Bits.{bit_and}
use lib.Dec.{eqb, ltb}
use lib.ListN.{length, get_or}
use borrow.Author.Tests.{eq-eqb, ne_eqb, lt-ltb, le-ltb}
use Rattle.std.specs.Prelude.{Some, None}
use Rattle.std.proofs.lemmas.Option.{none-some}
use Rattle.std.proofs.Common.{◌⊎◌, inl, inr}
use Rattle.model.specs.Notation.{if◌then◌otherwise◌, ◌is◌}
use Rattle.bits.specs.Bits.{bit, member, Numbers, holds, any_below, differ}
use Rattle.bits.proofs.Bits.{bit-and}
use Rattle.bits.proofs.Sets.{member-none}
use Rattle.bits.proofs.Counts.{any-ext}
use Rattle.codes.specs.Enums.{told}
use Rattle.rows.specs.Rows.{masked}
use Rattle.session.specs.Words.{holder_for, in_table, opened_pair, OpenedFirst, WordsWritten, held_in}

-- a holder's words, as far as they are of the attribute
module _ (rows table : List ℕ) (holder k p : ℕ) (small : p < 256) where
  pub no_words : length table / 4 ≤ holder → member (0 ∷ 0 ∷ 0 ∷ 0 ∷ []) p ≡ (in_table table holder p && masked rows k p)
  unfolding in_table
  no_words h = member-none p small ∙ sym (ap (λ (t : Bool). (t && holds table holder p) && masked rows k p) (le-ltb holder (length table / 4) h))

  pub common-words : (words : List ℕ) → holder < length table / 4
      → ((i : ℕ) → i < 4 → get_or words i 0 ≡ bit_and (get_or table (4 * holder + i) 0) (get_or rows (8 * k + 4 + i) 0))
      → member words p ≡ (in_table table holder p && masked rows k p)
  unfolding in_table member holds masked
  common-words words h each =
      ap (λ (w : ℕ). bit w (p % 64)) (each (p / 64) (omega arith))
      ∙ bit-and (get_or table (4 * holder + p / 64) 0) (get_or rows (8 * k + 4 + p / 64) 0) (p % 64)
      ∙ sym (ap (λ (t : Bool). (t && bit (get_or table (4 * holder + p / 64) 0) (p % 64)) && bit (get_or rows (8 * k + 4 + p / 64) 0) (p % 64)) (lt-ltb holder (length table / 4) h))

-- the pairs that are opened: those of the holder whose set is read, or none
by-holder : (f : ℕ → Bool) (o : model.Option ℕ) (h : ℕ) → Some h ≡ told o → (o is f) ≡ f h
by-holder f model.none h e = absurd (none-some h (sym e))
by-holder f (model.some a) h e = ap f (cc)

by_none : (f : ℕ → Bool) (o : model.Option ℕ) → None ≡ told o → (o is f) ≡ false
by_none f model.none e = refl
by_none f (model.some a) e = absurd (none-some a e)

module _ (rows table : List ℕ) (user object mask k p : ℕ) where
  pub opened-some : (h : ℕ) → Some h ≡ told (holder_for rows user object mask k) → (in_table table h p && masked rows k p) ≡ opened_pair rows table user object mask k p
  unfolding opened_pair
  opened-some h e = sym (ap (λ (t : Bool). t && masked rows k p) (by-holder (λ i. in_table table i p) (holder_for rows user object mask k) h e))

  pub opened-none : None ≡ told (holder_for rows user object mask k) → p < 256 → member (0 ∷ 0 ∷ 0 ∷ 0 ∷ []) p ≡ opened_pair rows table user object mask k p
  unfolding opened_pair
  opened-none e h =
      member-none p h ∙ sym (ap (λ (t : Bool). t && masked rows k p) (by_none (λ i. in_table table i p) (holder_for rows user object mask k) e))

-- the words of attribute k are written: those in their places, and the others as before
pub words-written : (before after words : List ℕ) (k : ℕ)
    → ((j : ℕ) → j < 4 → get_or after (4 * k + j) 0 ≡ get_or words j 0)
    → ((j : ℕ) → (j < 4 * k) ⊎ (4 * k + 4 ≤ j) → get_or after j 0 ≡ get_or before j 0)
    → WordsWritten before k (member words) after
unfolding holds member
words-written before after words k inside outside j p h = go (ℕ_discrete j k) (dec_lt j k)
  where
    told-by : Bool → Bool
    told-by t = if t then bit (get_or words (p / 64) 0) (p % 64) otherwise bit (get_or before (4 * j + p / 64) 0) (p % 64)

    go : Dec (j ≡ k) → Dec (j < k) → bit (get_or after (4 * j + p / 64) 0) (p % 64) ≡ told-by (eqb j k)
    go (yes e) l =
        ap (λ (i : ℕ). bit (get_or after (4 * i + p / 64) 0) (p % 64)) e ∙ ap (λ (w : ℕ). bit w (p % 64)) (inside (p / 64) (omega arith))
        ∙ sym (ap told-by (eq-eqb j k e))
    go (no n) (yes l) = ap (λ (w : ℕ). bit w (p % 64)) (outside (4 * j + p / 64) (inl (omega arith))) ∙ sym (ap told-by (ne_eqb j k n))
    go (no n) (no l) = ap (λ (w : ℕ). bit w (p % 64)) (outside (4 * j + p / 64) (inr (omega arith))) ∙ sym (ap told-by (ne_eqb j k n))

-- so one more attribute is opened
module _ (rows table : List ℕ) (user object mask k : ℕ) (start before after words : List ℕ)
    (word : (p : ℕ) → p < 256 → member words p ≡ opened_pair rows table user object mask k p)
    (put : WordsWritten before k (member words) after) where
  pub one_more : OpenedFirst rows table user object mask k start before → OpenedFirst rows table user object mask (k + 1) start after
  one_more f j p h = put j p h ∙ go (ℕ_discrete j k) (dec_lt j k)
    where
      opened : Bool → Bool
      opened t = if t then opened_pair rows table user object mask j p otherwise holds start j p

      told-by : Bool → Bool
      told-by t = if t then member words p otherwise holds before j p

      go : Dec (j ≡ k) → Dec (j < k) → told-by (eqb j k) ≡ opened (ltb j (k + 1))
      go (yes e) l =
          ap told-by (eq-eqb j k e) ∙ word p h ∙ ap (λ (i : ℕ). opened_pair rows table user object mask i p) (sym e)
          ∙ sym (ap opened (lt-ltb j (k + 1) (omega arith)))
      go (no n) (yes l) = ap told-by (ne_eqb j k n) ∙ f j p h ∙ ap opened (lt-ltb j k l ∙ sym (lt-ltb j (k + 1) (omega arith)))
      go (no n) (no l) = ap told-by (ne_eqb j k n) ∙ f j p h ∙ ap opened (le-ltb j k (omega arith) ∙ sym (le-ltb j (k + 1) (omega arith)))

-- ---- held attributes

module _ (rows table : List ℕ) (user k : ℕ) where
  abbrev here : ℕ → Bool
  here p = in_table table user p && masked rows k p

  pub not-user : (get_or rows (8 * k) 0 ≡ 1 → ⊥) → false ≡ held_in rows table user k
  unfolding held_in
  not-user n = sym (ap (λ (t : Bool). t && any_below 256 here) (ne_eqb (get_or rows (8 * k) 0) 1 n))

  pub some_pair : get_or rows (8 * k) 0 ≡ 1 → (words : List ℕ) → Numbers 256 words here → differ 256 words (0 ∷ 0 ∷ 0 ∷ 0 ∷ []) ≡ held_in rows table user k
  unfolding held_in differ
  some_pair e words word =
      any-ext 256 (λ p. not (beq (member words p) (member (0 ∷ 0 ∷ 0 ∷ 0 ∷ []) p))) here
      (λ p h. ap₂ (λ (t u : Bool). not (beq t u)) (word p h) (member-none p h) ∙ unlike-false (here p))
      ∙ sym (ap (λ (t : Bool). t && any_below 256 here) (eq-eqb (get_or rows (8 * k) 0) 1 e))
    where
      unlike-false : (t : Bool) → not (beq t false) ≡ t
      unlike-false true = refl
      unlike-false false = refl
