-- What the holders' sections of a book say of the holders of its state: their numbers, how many there are, their names, and the text of their lines.
-- Assumes nothing.
use Prim.Native.Nat.{ℕ, zero, suc, ◌+◌, ◌<◌}
use mathlib.Core.Path.{◌≡◌, refl, sym, ap, ap₂, ◌∙◌}
use mathlib.Core.Bool.{false, true≢false}
use mathlib.Core.List.{List, [], ◌∷◌, ◌++◌, append-nil}
use mathlib.Core.Option.{Option, some, some-injective}
use native.Mathlib.Omega.{arith}
use lib.Dec.{eqb}
use lib.ListN.{length, get_or}
use Rattle.model.specs.Notation.{if◌then◌otherwise◌, ◌>>=◌, map, each, filter, nth, below}
use Rattle.model.specs.Bytes.{Bytes}
use Rattle.model.specs.Limits.{holder_numbers}
use Rattle.model.specs.Declarations.{Holder, Sort, holder_of, sort_of, holder_numbers_of, is_sort}
use Rattle.model.specs.Lines.{holder}
use Rattle.model.specs.State.{State}
use Rattle.model.specs.Standing.{Standing}
use Rattle.model.specs.FileText.{holder_line, holders_in_order, holder_sorts, holder_lines, line_text}
use Rattle.model.proofs.WordTables.{none-is-some}
use Rattle.model.proofs.Lists.{nth_in, lt-nth, each-each}
use Rattle.model.proofs.Numbered.{numbers-listed}
use Rattle.model.proofs.Standing.{numbers-length, holder-below, holder-number}
use Rattle.model.proofs.RoundTrip.{holder-found, holder-at}
use Rattle.codes.specs.Codes.{coded}
use Rattle.text.specs.Packing.{packed_of}
use Rattle.book.specs.Sections as section
use Rattle.book.specs.Held.{Holds, sort_code, holder_row}
use Rattle.book.proofs.HeldNumbers.{holder-in-book}
use Rattle.output.specs.Laid.{word_text}
use Rattle.spelling.specs.LineTexts.{key_words, listed_text, name_of_holder, line_end, holder_line_text, holder_count, holder_at, sort_text, holders_text}
use Rattle.spelling.proofs.Listing.{each_map, each-filter, each-place}
use Rattle.spelling.proofs.SectionWords.{word_at}
use Rattle.spelling.proofs.BookDeclared.{packed-name}

-- ---- lists

-- a list around one of its elements
nth-split : {A : Type 0} (xs : List A) (k : ℕ) {x : A} → nth xs k ≡ some x → (pre : List A) × (rest : List A) × (xs ≡ pre ++ x ∷ rest) × (length pre ≡ k)
nth-split [] k e = none-is-some e
nth-split (y ∷ ys) zero e = ([], ys, ap (λ z. z ∷ ys) (some-injective y _ e), refl)
nth-split (y ∷ ys) (suc k) e = let (pre, rest, f, g) = nth-split ys k e in (y ∷ pre, rest, ap (λ l. y ∷ l) f, ap suc g)

each-single : {A : Type 0} (f : A → ℕ) (xs : List A) → each (λ x. f x ∷ []) xs ≡ map f xs
each-single f [] = refl
each-single f (x ∷ xs) = ap (λ (l : List ℕ). f x ∷ l) (each-single f xs)

each-same-numbers : (xs : List ℕ) → each (λ x. x ∷ []) xs ≡ xs
each-same-numbers [] = refl
each-same-numbers (x ∷ xs) = ap (λ (l : List ℕ). x ∷ l) (each-same-numbers xs)

-- ---- one line

-- the line of a holder of sort a, among those of sort s
sort-line : (a s : Sort) (n : Bytes) → is_sort s Sort.admin ≡ false
    → (if eqb (sort_code a) (sort_code s) then listed_text key_words (sort_code s) ++ (n ++ line_end) otherwise []) ≡ (if is_sort a s then line_text (holder a n) otherwise [])
unfolding listed_text word_text
sort-line Sort.admin Sort.ugroup n other = refl
sort-line Sort.ugroup Sort.ugroup n other = refl
sort-line Sort.ogroup Sort.ugroup n other = refl
sort-line Sort.user Sort.ugroup n other = refl
sort-line Sort.object Sort.ugroup n other = refl
sort-line Sort.admin Sort.ogroup n other = refl
sort-line Sort.ugroup Sort.ogroup n other = refl
sort-line Sort.ogroup Sort.ogroup n other = refl
sort-line Sort.user Sort.ogroup n other = refl
sort-line Sort.object Sort.ogroup n other = refl
sort-line Sort.admin Sort.user n other = refl
sort-line Sort.ugroup Sort.user n other = refl
sort-line Sort.ogroup Sort.user n other = refl
sort-line Sort.user Sort.user n other = refl
sort-line Sort.object Sort.user n other = refl
sort-line Sort.admin Sort.object n other = refl
sort-line Sort.ugroup Sort.object n other = refl
sort-line Sort.ogroup Sort.object n other = refl
sort-line Sort.user Sort.object n other = refl
sort-line Sort.object Sort.object n other = refl
sort-line a Sort.admin n other = absurd (true≢false other)

-- ---- the book

module _ {book : List ℕ} {rules : Bytes} {S : State} (standing : Standing S) (held : Holds book rules S) where
  -- each holder's number is its place
  number_is : (k : ℕ) (h : Holder) → nth S.declared.holders k ≡ some h → h.number ≡ k
  number_is k h e = let (pre, rest, f, g) = nth-split S.declared.holders k e in holder-at standing.declarations.holders pre h rest f ∙ g

  pub holder-nth : (k : ℕ) (h : Holder) → nth S.declared.holders k ≡ some h → holder_of S.declared k ≡ some h
  holder-nth k h e =
      ap (holder_of S.declared) (sym (number_is k h e)) ∙ holder-found standing.declarations.holders (nth_in S.declared.holders k e)

  -- each number below their number is a holder's
  pub holder-there : (k : ℕ) → k < length S.declared.holders → (h : Holder) × (holder_of S.declared k ≡ some h)
  holder-there k l = let (h, e) = lt-nth S.declared.holders k l in (h, holder-nth k h e)

  -- the numbers are those below the number of holders
  pub holder-numbers : holder_numbers_of S.declared ≡ below (length S.declared.holders)
  unfolding holder_numbers_of
  holder-numbers =
      sym (each-single (λ h. h.number) S.declared.holders)
      ∙ sym (each-place (λ h. h.number ∷ []) (λ k. k ∷ []) S.declared.holders (λ k h e. ap (λ (j : ℕ). j ∷ []) (sym (number_is k h e))))
      ∙ each-same-numbers (below (length S.declared.holders))

  -- word 3 of the counts is their number
  pub holder-count : holder_count book ≡ length S.declared.holders
  holder-count =
      let few = standing.declarations.holders.few in
      let n : get_or book 3 0 ≡ length (holder_numbers_of S.declared) = word_at section.counts book held.counts.holders (omega arith) refl in
      let m = numbers-length S.declared in
      omega (arith, n, m, few, ap holder_numbers held.edition)

  -- the name in a holder's row
  pub holder_name : (k : ℕ) (h : Holder) → holder_of S.declared k ≡ some h → name_of_holder book k ≡ h.name
  holder_name k h e =
      let l : k < 256 = holder-in-book standing held k (holder-below S.declared k (holder-number S.declared k e)) in
      let row : holder_row S.declared k ≡ some (1, (packed_of h.name).low, (packed_of h.name).high, 0) =
      ap (λ (o : Option Holder). o >>= λ h. some (1, (packed_of h.name).low, (packed_of h.name).high, 0)) e in
      let w = held.holders.written k _ row in
      let first : get_or book (holder_at k) 0 ≡ (packed_of h.name).low = word_at section.holders book w.w1 (omega arith) (omega arith) in
      let second : get_or book (holder_at k + 1) 0 ≡ (packed_of h.name).high = word_at section.holders book w.w2 (omega arith) (omega arith) in
      packed-name book (holder_at k) h.name first second (standing.declarations.holders.named k h e)

  -- the line of one holder, among those of a sort
  line-is : (s : Sort) → is_sort s Sort.admin ≡ false → (k : ℕ) (h : Holder) → nth S.declared.holders k ≡ some h
      → holder_line_text book (sort_code s) k ≡ (if is_sort h.sort s then line_text (holder_line h) otherwise [])
  unfolding holder_line_text sort_of
  line-is s other k h e =
      let f = holder-nth k h e in
      let l : k < 256 = holder-in-book standing held k (holder-below S.declared k (holder-number S.declared k f)) in
      let g : get_or book ((section.sorts).start + k) 0 ≡ sort_code h.sort =
      word_at section.sorts book (held.sorts k l ∙ ap (λ (o : Option Holder). coded sort_code (o >>= λ h. some h.sort)) f) l refl in
      ap₂ (λ (c : ℕ) (n : Bytes). if eqb c (sort_code s) then listed_text key_words (sort_code s) ++ (n ++ line_end) otherwise []) g (holder_name k h f)
      ∙ sort-line h.sort s h.name other

  in_order_lem : holders_in_order S.declared ≡ S.declared.holders
  unfolding holder_numbers_of
  in_order_lem = numbers-listed (λ h. h.number) S.declared.holders standing.declarations.holders.ordered

  -- the lines of a sort
  sort-text : (s : Sort) → is_sort s Sort.admin ≡ false
      → sort_text book (sort_code s) ≡ each line_text (map holder_line (filter (λ h. is_sort h.sort s) (holders_in_order S.declared)))
  sort-text s other =
      ap (λ (n : ℕ). each (holder_line_text book (sort_code s)) (below n)) holder-count
      ∙ each-place (λ h. if is_sort h.sort s then line_text (holder_line h) otherwise []) (holder_line_text book (sort_code s)) S.declared.holders (line-is s other)
      ∙ sym (each-filter (λ h. line_text (holder_line h)) (λ h. is_sort h.sort s) S.declared.holders)
      ∙ sym (each_map line_text holder_line (filter (λ h. is_sort h.sort s) S.declared.holders))
      ∙ ap (λ (hs : List Holder). each line_text (map holder_line (filter (λ h. is_sort h.sort s) hs))) (sym in_order_lem)

  -- the lines of all sorts
  pub holders-text : holders_text book ≡ each line_text (holder_lines S.declared)
  holders-text =
      ap₂ (λ (x y : Bytes). x ++ y) (sort-text Sort.ugroup refl)
      (ap₂ (λ (x y : Bytes). x ++ y) (sort-text Sort.ogroup refl)
      (ap₂ (λ (x y : Bytes). x ++ y) (sort-text Sort.user refl) (sort-text Sort.object refl ∙ sym (append-nil _))))
      ∙ sym (each-each line_text (λ s. map holder_line (filter (λ h. is_sort h.sort s) (holders_in_order S.declared))) holder_sorts)
