-- An operation more: the book with it holds the state with it. Assumes nothing.
use Prim.Native.Nat.{ℕ, ◌+◌, ◌*◌, ◌≤◌, ◌<◌}
use mathlib.Core.Path.{◌≡◌, refl, sym, ap, subst, ◌∙◌}
use mathlib.Core.Logic.{⊎_elim}
use mathlib.Core.Bool.{true, false, not}
use mathlib.Core.List.{List, [], ◌∷◌, ◌++◌}
use mathlib.Core.Option as math
use mathlib.Core.Option.{some}
use Rattle.std.specs.Prelude.{Option, is_some}
use native.Mathlib.Omega.{arith}
use lib.ListN.{length, get_or, set, length-set}
use lib.Seq.{get_or-set_same, get_or-set_other}
use borrow.Author.Tests.{le-leb, lt-leb}
use Rattle.model.specs.Notation.{is_none, nth}
use Rattle.model.specs.Limits.{operation_limit}
use Rattle.model.specs.Numbers as refusal
use Rattle.model.specs.Bytes.{Bytes, same}
use Rattle.model.specs.Names.{is_name}
use Rattle.model.specs.Declarations.{Declarations, attribute_number, operation_number, holder_numbers_of, groups}
use Rattle.model.specs.Lines.{op}
use Rattle.model.specs.State.{State, after, with_operation}
use Rattle.model.specs.Standing.{Standing}
use Rattle.model.proofs.Lists.{nth-lt}
use Rattle.model.proofs.Growing.{nth_last, place-append}
use Rattle.text.specs.declared.Packed.{Packed}
use Rattle.text.specs.Packing.{packed_of}
use Rattle.rows.specs.Rows.{AttributeRows, is_pair_of}
use Rattle.index.specs.Index.{Indexed}
use Rattle.book.specs.Sections as section
use Rattle.book.specs.Sections.{Section, section_words}
use Rattle.book.specs.Held.{CountsOf, OperationRows, SortRows, RuleRows, Holds, pair_row, holder_row}
use Rattle.book.specs.Finding.{OperationFound}
use Rattle.book.specs.Declaring.{operation_place, operation_put, OperationStep}
use Rattle.book.proofs.Writes.{apart, word-beside, word-inside, section-long, section-word, word_at}
use Rattle.book.proofs.Kept.{length_more, NamesKnown, rules-kept, sorts-kept, groups-kept, attributes-kept}
use Rattle.book.proofs.DeclarationTests.{test-repeated, test-full, accepted, number-there, number-nowhere}

-- what is written, by sections
module _ (book : List ℕ) (k : ℕ) (packed : Packed) (few : k < operation_limit) where
  -- the book after each word
  abbrev b1 : List ℕ
  b1 = set book (operation_place k) packed.low

  abbrev b2 : List ℕ
  b2 = set b1 (operation_place k + 1) packed.high

  rows-beside : (s : Section) → apart s section.operations ≡ true → section_words s b2 ≡ section_words s book
  rows-beside s a =
      word-beside s section.operations b1 a (operation_place k + 1) packed.high (omega arith) (omega arith)
      ∙ word-beside s section.operations book a (operation_place k) packed.low (omega arith) (omega arith)

  put-beside : (s : Section) → apart s section.operations ≡ true → apart s section.counts ≡ true → section_words s (operation_put book k packed) ≡ section_words s book
  unfolding operation_put
  put-beside s a b = word-beside s section.counts b2 b 1 (k + 1) (omega arith) (omega arith) ∙ rows-beside s a

  put-rows : section_words section.operations (operation_put book k packed) ≡ set (set (section_words section.operations book) (2 * k) packed.low) (2 * k + 1) packed.high
  unfolding operation_put
  put-rows =
      let e : operation_place k + 1 ≡ (section.operations).start + (2 * k + 1) = omega arith in
      word-beside section.operations section.counts b2 refl 1 (k + 1) (omega arith) (omega arith)
      ∙ ap (λ (i : ℕ). section_words section.operations (set b1 i packed.high)) e
      ∙ word-inside section.operations b1 (2 * k + 1) packed.high (omega arith)
      ∙ ap (λ (l : List ℕ). set l (2 * k + 1) packed.high) (word-inside section.operations book (2 * k) packed.low (omega arith))

  put_count : section_words section.counts (operation_put book k packed) ≡ set (section_words section.counts book) 1 (k + 1)
  unfolding operation_put
  put_count = word-inside section.counts b2 1 (k + 1) (omega arith) ∙ ap (λ (l : List ℕ). set l 1 (k + 1)) (rows-beside section.counts refl)

  put-long : length (operation_put book k packed) ≡ length book
  unfolding operation_put
  put-long = simp length-set

  pub operation-same-length : (next : List ℕ) → next ≡ operation_put book k packed → length next ≡ length book
  operation-same-length next e = ap length e ∙ put-long

-- the rows of operations with one more
rows_more : (rows : List ℕ) (operations : List Bytes) (n : Bytes) (k : ℕ) → length rows ≡ (section.operations).size → k ≡ length operations → k < operation_limit
    → OperationRows rows operations → OperationRows (set (set rows (2 * k) (packed_of n).low) (2 * k + 1) (packed_of n).high) (operations ++ n ∷ [])
rows_more rows operations n k long at few held = record { low = lows; high = highs; other = others }
  where
    low : ℕ
    low = (packed_of n).low

    high : ℕ
    high = (packed_of n).high

    next : List ℕ
    next = set (set rows (2 * k) low) (2 * k + 1) high

    lows : (i : ℕ) (m : Bytes) → nth (operations ++ n ∷ []) i ≡ some m → get_or next (2 * i) 0 ≡ (packed_of m).low
    lows i m e =
        ⊎_elim
        (λ f.
        let l = nth-lt operations i f in
        get_or-set_other (set rows (2 * k) low) (2 * k + 1) (2 * i) high 0 (λ z. omega arith) ∙ get_or-set_other rows (2 * k) (2 * i) low 0 (λ z. omega arith) ∙ held.low i m f)
        (λ (z, f).
        let j : 2 * i ≡ 2 * k = omega arith in
        ap (λ (u : ℕ). get_or next u 0) j
        ∙ get_or-set_other (set rows (2 * k) low) (2 * k + 1) (2 * k) high 0 (λ z. omega arith)
        ∙ get_or-set_same rows (2 * k) low 0 (omega arith)
        ∙ ap (λ (b : Bytes). (packed_of b).low) f)
        (nth_last operations n i e)

    highs : (i : ℕ) (m : Bytes) → nth (operations ++ n ∷ []) i ≡ some m → get_or next (2 * i + 1) 0 ≡ (packed_of m).high
    highs i m e =
        ⊎_elim
        (λ f.
        let l = nth-lt operations i f in
        get_or-set_other (set rows (2 * k) low) (2 * k + 1) (2 * i + 1) high 0 (λ z. omega arith) ∙ get_or-set_other rows (2 * k) (2 * i + 1) low 0 (λ z. omega arith) ∙ held.high i m f)
        (λ (z, f).
        let j : 2 * i + 1 ≡ 2 * k + 1 = omega arith in
        ap (λ (u : ℕ). get_or next u 0) j
        ∙ get_or-set_same (set rows (2 * k) low) (2 * k + 1) high 0 (simp length-set (omega arith))
        ∙ ap (λ (b : Bytes). (packed_of b).high) f)
        (nth_last operations n i e)

    others : (i : ℕ) → length (operations ++ n ∷ []) ≤ i → i < operation_limit → get_or next (2 * i) 0 ≡ 0
    others i h l =
        let m = length_more operations n in
        get_or-set_other (set rows (2 * k) low) (2 * k + 1) (2 * i) high 0 (λ z. omega arith)
        ∙ get_or-set_other rows (2 * k) (2 * i) low 0 (λ z. omega arith)
        ∙ held.other i (omega arith) l

module _ (book : List ℕ) (code : Bytes) (D : Declarations) (n : Bytes) (k : ℕ) where
  counts-more : (words : List ℕ) → 1 < length words → k ≡ length D.operations → CountsOf words D → CountsOf (set words 1 (k + 1)) (with_operation n D)
  unfolding holder_numbers_of groups
  counts-more words long at c = record {
    attributes = word_at words 1 (k + 1) 0 long ∙ c.attributes;
    operations = word_at words 1 (k + 1) 1 long ∙ omega (arith, at, length_more D.operations n);
    pairs = word_at words 1 (k + 1) 2 long ∙ c.pairs;
    holders = word_at words 1 (k + 1) 3 long ∙ c.holders;
    groups-are = word_at words 1 (k + 1) 4 long ∙ c.groups-are;
    rules = word_at words 1 (k + 1) 5 long ∙ c.rules;
  }

-- the book with an operation more
pub operation-held : (book : List ℕ) (code : Bytes) (S : State) (n : Bytes) (k : ℕ) → Holds book code S → NamesKnown S.declared
    → k ≡ length S.declared.operations → k < operation_limit → Holds (operation_put book k (packed_of n)) code (after (op n) S)
unfolding after attribute_number operation_number is_pair_of
operation-held book code S n k held known at few =
    let D = S.declared in
    let E = with_operation n D in
    let long = held.long in
    let beside = put-beside book k (packed_of n) few in
    record {
      edition = held.edition;
      long = put-long book k (packed_of n) few ∙ held.long;
      code-long = held.code-long;
      counts =
          subst (λ (w : List ℕ). CountsOf w E) (sym (put_count book k (packed_of n) few))
          (counts-more book code D n k (section_words section.counts book) (omega (arith, section-long section.counts book (omega arith))) at held.counts);
      attributes = subst (λ (w : List ℕ). AttributeRows w E) (sym (beside section.attributes refl refl)) (attributes-kept D E refl (λ i p. refl) _ held.attributes);
      operations =
          subst (λ (w : List ℕ). OperationRows w E.operations) (sym (put-rows book k (packed_of n) few))
          (rows_more (section_words section.operations book) D.operations n k (section-long section.operations book (omega arith)) at few held.operations);
      pairs = subst (λ (w : List ℕ). Indexed w 256 (pair_row E)) (sym (beside section.pairs refl refl)) held.pairs;
      holders = subst (λ (w : List ℕ). Indexed w 256 (holder_row E)) (sym (beside section.holders refl refl)) held.holders;
      sorts = subst (λ (w : List ℕ). SortRows w E) (sym (beside section.sorts refl refl)) (sorts-kept D E refl (section_words section.sorts book) held.sorts);
      groups = rw (beside section.slots refl refl, beside section.slot_of refl refl) (groups-kept D E refl _ _ held.groups);
      ties = rw (beside section.ups refl refl, beside section.own refl refl, beside section.slots refl refl) held.ties;
      rules =
          subst (λ (w : List ℕ). RuleRows w code E) (sym (beside section.rules refl refl))
          (rules-kept D E (λ s m j e. e) (λ i a e. e) (λ o j e. place-append (same o) D.operations (n ∷ []) e) refl known _ code held.rules);
    }

-- the three ways of the step; r is what was found, m the count
module _ (book : List ℕ) (packed : Packed) (r : Option ℕ) (found : OperationFound (section_words section.operations book) packed r) where
  pub operation-repeated : is_some r ≡ true → OperationStep book packed book refusal.repeated
  operation-repeated there code n name words S standing held =
      let e = found S.declared standing.declarations held.operations n name words in
      (test-repeated S (op n) refl refl refl refl (number-there (operation_number S.declared n) r e there), λ z. absurd (omega arith))

  module _ (free : is_some r ≡ false) (m : ℕ) (count : m ≡ get_or book 1 0) where
    new : (n : Bytes) → is_name n ≡ true → packed_of n ≡ packed → (code : Bytes) (S : State) → Standing S → Holds book code S
        → not (is_none (operation_number S.declared n)) ≡ false
    new n name words code S standing held =
        ap (λ (o : math.Option ℕ). not (is_none o))
        (number-nowhere (operation_number S.declared n) r (found S.declared standing.declarations held.operations n name words) free)

    counted : (code : Bytes) (S : State) → Holds book code S → m ≡ length S.declared.operations
    counted code S held = count ∙ sym (section-word section.counts book 1 (omega arith)) ∙ held.counts.operations

    pub operation-full : operation_limit ≤ m → OperationStep book packed book refusal.full
    operation-full over code n name words S standing held =
        let at = counted code S held in
        let over' = le-leb operation_limit (length S.declared.operations) (omega arith) in
        (test-full S (op n) refl refl refl refl (new n name words code S standing held) over', λ z. absurd (omega arith))

    pub operation-step : m < operation_limit → (next : List ℕ) → next ≡ operation_put book m packed → OperationStep book packed next 0
    operation-step few next e code n name words S standing held =
        let at = counted code S held in (
          accepted S (op n) refl refl refl refl (new n name words code S standing held) (lt-leb operation_limit (length S.declared.operations) (omega arith)),
          λ _.
              subst (λ (l : List ℕ). Holds l code (after (op n) S)) (sym (e ∙ ap (operation_put book m) (sym words)))
              (operation-held book code S n m held (λ i r f. (standing.declarations.rules.each i r f).names-declared) at few),
        )
