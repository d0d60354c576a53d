-- What becomes of a section when a word or another section is written. Assumes nothing.
use Prim.Native.Nat.{ℕ, ◌+◌, ◌-◌, ◌≤◌, ◌<◌}
use mathlib.Core.Path.{◌≡◌, refl, sym, ap, ◌∙◌}
use mathlib.Core.Logic.{◌⊎◌, inl, inr, ⊎_elim}
use mathlib.Core.Bool.{Bool, true, false, ◌||◌}
use mathlib.Core.List.{List}
use native.Mathlib.Omega.{arith}
use lib.Dec.{eqb, leb}
use lib.ListN.{length, get_or, take, drop, set, length-drop}
use lib.Seq.{length-take-le, get_or-take, get_or-drop, get_or-set_same, get_or-set_other, take-set-le, take-set-lt, drop-set-lt, drop-set-add}
use borrow.Author.Tests.{eqb-true, eqb-false, leb-true}
use borrow.Rule.Slice.PartMut.{same_len_mid}
use Rattle.model.specs.Notation.{if◌then◌otherwise◌}
use Rattle.model.proofs.Lists.{or_cases}
use Rattle.book.specs.Sections.{Section, section_words}
use Rattle.book.specs.Declaring.{with_section}
use Rattle.book.proofs.Sections.{mid-inside, mid-before, mid-behind}

-- two sections have no word in common
abbrev pub apart : Section → Section → Bool
apart s t = leb (s.start + s.size) t.start || leb (t.start + t.size) s.start

module _ (s t : Section) (book : List ℕ) (beside : apart s t ≡ true) where
  sides : (s.start + s.size ≤ t.start) ⊎ (t.start + t.size ≤ s.start)
  sides = ⊎_elim (λ e. inl (leb-true _ _ e)) (λ e. inr (leb-true _ _ e)) (or_cases (leb (s.start + s.size) t.start) (leb (t.start + t.size) s.start) beside)

  -- a word of t
  pub word-beside : (i v : ℕ) → t.start ≤ i → i < t.start + t.size → section_words s (set book i v) ≡ section_words s book
  word-beside i v h l = go sides
    where
      go : (s.start + s.size ≤ t.start) ⊎ (t.start + t.size ≤ s.start) → section_words s (set book i v) ≡ section_words s book
      go (inl m) =
          let e : s.start + (i - s.start) ≡ i = omega arith in
          ap (take s.size) (ap (λ (j : ℕ). drop s.start (set book j v)) (sym e) ∙ drop-set-add s.start book (i - s.start) v)
          ∙ take-set-le s.size (drop s.start book) (i - s.start) v (omega arith)
      go (inr m) = ap (take s.size) (drop-set-lt s.start book i v (omega arith))

  -- the whole of t
  pub section-beside : (words : List ℕ) → t.start + t.size ≤ length book → length words ≡ t.size → section_words s (with_section t book words) ≡ section_words s book
  section-beside words fits long = go sides
    where
      go : (s.start + s.size ≤ t.start) ⊎ (t.start + t.size ≤ s.start) → section_words s (with_section t book words) ≡ section_words s book
      go (inl m) = mid-before t.start t.size book words fits s.start s.size m
      go (inr m) = mid-behind t.start t.size book words fits s.start s.size long m

module _ (s : Section) (book : List ℕ) where
  -- a word of the section itself
  pub word-inside : (i v : ℕ) → i < s.size → section_words s (set book (s.start + i) v) ≡ set (section_words s book) i v
  word-inside i v h = ap (take s.size) (drop-set-add s.start book i v) ∙ take-set-lt s.size (drop s.start book) i v h

  pub section-inside : (words : List ℕ) → s.start + s.size ≤ length book → length words ≡ s.size → section_words s (with_section s book words) ≡ words
  section-inside words fits long = mid-inside s.start s.size book words fits long

  pub section-long : s.start + s.size ≤ length book → length (section_words s book) ≡ s.size
  section-long fits = length-take-le s.size (drop s.start book) (omega (arith, length-drop s.start book))

  pub section-same-length : (words : List ℕ) → s.start + s.size ≤ length book → length words ≡ s.size → length (with_section s book words) ≡ length book
  section-same-length words fits long = same_len_mid s.start s.size book words (long ∙ sym (section-long fits))

  pub section-word : (i : ℕ) → i < s.size → get_or (section_words s book) i 0 ≡ get_or book (s.start + i) 0
  section-word i h = get_or-take s.size (drop s.start book) i 0 h ∙ get_or-drop s.start book i 0

-- a word of a list in which one was written
pub word_at : (words : List ℕ) (j v i : ℕ) → j < length words → get_or (set words j v) i 0 ≡ (if eqb i j then v otherwise get_or words i 0)
word_at words j v i h = go (eqb i j) refl
  where
    go : (t : Bool) → eqb i j ≡ t → get_or (set words j v) i 0 ≡ (if t then v otherwise get_or words i 0)
    go true e = ap (λ (k : ℕ). get_or (set words j v) k 0) (eqb-true i j e) ∙ get_or-set_same words j v 0 h
    go false e = get_or-set_other words j i v 0 (eqb-false i j e)
