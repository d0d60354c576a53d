-- The words of a section are words of the book. Assumes nothing.
use Prim.Native.Nat.{ℕ, ◌+◌, ◌<◌}
use mathlib.Core.Path.{◌≡◌, sym, ap, ◌∙◌}
use mathlib.Core.List.{List}
use lib.ListN.{get_or, drop}
use lib.Seq.{get_or-take, get_or-drop}
use Rattle.book.specs.Sections.{Section, section_words}

pub section-word : (s : Section) (book : List ℕ) (i : ℕ) → i < s.size → get_or (section_words s book) i 0 ≡ get_or book (s.start + i) 0
section-word s book i l = get_or-take s.size (drop s.start book) i 0 l ∙ get_or-drop s.start book i 0

-- a word that is known in a section, at its place of the book
pub word_at : (s : Section) (book : List ℕ) {i j v : ℕ} → get_or (section_words s book) i 0 ≡ v → i < s.size → s.start + i ≡ j → get_or book j 0 ≡ v
word_at s book {i} e l z = ap (λ (k : ℕ). get_or book k 0) (sym z) ∙ sym (section-word s book i l) ∙ e
