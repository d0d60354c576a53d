-- An attribute more: the book with it holds the state with it. Assumes nothing.
use Prim.Native.Nat.{ℕ, ◌+◌, ◌*◌, ◌/◌, ◌%◌, ◌≤◌, ◌<◌}
use mathlib.Core.Path.{◌≡◌, refl, sym, ap, ap₂, subst, ◌∙◌}
use mathlib.Core.Logic.{⊎_elim}
use mathlib.Core.Bool.{Bool, true, false, not, ◌&&◌}
use mathlib.Core.List.{List, [], ◌∷◌}
use mathlib.Core.Option as math
use mathlib.Core.Option.{none, some}
use Rattle.std.specs.Prelude.{Option, is_some}
use native.Mathlib.Omega.{arith}
use lib.Dec.{eqb, leb}
use lib.ListN.{length, get_or, set, length-set}
use borrow.Author.Tests.{le-leb, lt-leb}
use Rattle.model.specs.Notation.{is_none, nth}
use Rattle.model.specs.Limits.{attribute_limit, pair_limit}
use Rattle.model.specs.Numbers as refusal
use Rattle.model.specs.Bytes.{Bytes}
use Rattle.model.specs.Names.{is_name}
use Rattle.model.specs.Attributes.{Source, AtomType, from_block, same_type}
use Rattle.model.specs.Declarations.{Declarations, Attribute, Pair, same_source_and_name, attribute_number, operation_number, holder_numbers_of, groups}
use Rattle.model.specs.Lines.{attr}
use Rattle.model.specs.State.{State, after, with_attribute}
use Rattle.model.specs.Standing.{WellDeclared, Standing}
use Rattle.model.proofs.Lists.{nth-lt, nth-append}
use Rattle.model.proofs.Growing.{nth_last, place-append}
use Rattle.model.proofs.Declared.{pair-declared}
use Rattle.codes.specs.Codes.{source_code, type_code}
use Rattle.text.specs.declared.Packed.{Packed}
use Rattle.text.specs.Packing.{packed_of}
use Rattle.bits.specs.Bits.{bit}
use Rattle.rows.specs.Rows.{AttributeRow, AttributeRows, is_pair_of, masked, Numbered}
use Rattle.index.specs.Index.{Row, Indexed, put_row}
use Rattle.index.proofs.Relinking.{put-0, put_1, put_2, put_3, put_other}
use Rattle.index.proofs.Listed.{indexed-same}
use Rattle.book.specs.Sections as section
use Rattle.book.specs.Sections.{Section, section_words, book_holders}
use Rattle.book.specs.Held.{CountsOf, OperationRows, SortRows, RuleRows, Holds, pair_row, holder_row}
use Rattle.book.specs.Declaring.{attribute_place, block_text, attribute_put, AttributeStep}
use Rattle.book.proofs.Writes.{apart, word-beside, word-inside, section-long, section-word, word_at}
use Rattle.book.proofs.Kept.{length_more, AttributesStay, rules-kept, sorts-kept, groups-kept}
use Rattle.book.proofs.DeclarationTests.{test-sort, test-repeated, test-full, accepted, number-there, number-nowhere}

-- ---- what is written, by sections

-- four words of a section, from its word i on
row-beside : (s t : Section) (book : List ℕ) (place : ℕ) (w : Row) → apart s t ≡ true → t.start ≤ place → place + 3 < t.start + t.size
    → section_words s (put_row book place w) ≡ section_words s book
unfolding put_row
row-beside s t book place w beside h l =
    word-beside s t (set (set (set book place w.0) (place + 1) w.1) (place + 2) w.2) beside (place + 3) w.3 (omega arith) (omega arith)
    ∙ word-beside s t (set (set book place w.0) (place + 1) w.1) beside (place + 2) w.2 (omega arith) (omega arith)
    ∙ word-beside s t (set book place w.0) beside (place + 1) w.1 (omega arith) (omega arith)
    ∙ word-beside s t book beside place w.0 (omega arith) (omega arith)

row_inside : (s : Section) (book : List ℕ) (i : ℕ) (w : Row) → i + 3 < s.size → section_words s (put_row book (s.start + i) w) ≡ put_row (section_words s book) i w
unfolding put_row
row_inside s book i w h =
    step (set (set (set book (s.start + i) w.0) (s.start + i + 1) w.1) (s.start + i + 2) w.2) 3 w.3 (omega arith)
    ∙ ap (λ (l : List ℕ). set l (i + 3) w.3)
    (step (set (set book (s.start + i) w.0) (s.start + i + 1) w.1) 2 w.2 (omega arith)
    ∙ ap (λ (l : List ℕ). set l (i + 2) w.2)
    (step (set book (s.start + i) w.0) 1 w.1 (omega arith)
    ∙ ap (λ (l : List ℕ). set l (i + 1) w.1) (word-inside s book i w.0 (omega arith))))
  where
    step : (b : List ℕ) (t v : ℕ) → t < 4 → section_words s (set b (s.start + i + t) v) ≡ set (section_words s b) (i + t) v
    step b t v l =
        let e : s.start + i + t ≡ s.start + (i + t) = omega arith in
        ap (λ (j : ℕ). section_words s (set b j v)) e ∙ word-inside s b (i + t) v (omega arith)

module _ (book : List ℕ) (k source ty : ℕ) (packed : Packed) (few : k < attribute_limit) where
  abbrev written : List ℕ
  written = put_row book (attribute_place k) (source, ty, packed.low, packed.high)

  put-beside : (s : Section) → apart s section.attributes ≡ true → apart s section.counts ≡ true → section_words s (attribute_put book k source ty packed) ≡ section_words s book
  unfolding attribute_put
  put-beside s a b =
      word-beside s section.counts written b 0 (k + 1) (omega arith) (omega arith)
      ∙ row-beside s section.attributes book (attribute_place k) (source, ty, packed.low, packed.high) a (omega arith) (omega arith)

  put-rows : section_words section.attributes (attribute_put book k source ty packed) ≡ put_row (section_words section.attributes book) (8 * k) (source, ty, packed.low, packed.high)
  unfolding attribute_put
  put-rows =
      word-beside section.attributes section.counts written refl 0 (k + 1) (omega arith) (omega arith)
      ∙ row_inside section.attributes book (8 * k) (source, ty, packed.low, packed.high) (omega arith)

  put_count : section_words section.counts (attribute_put book k source ty packed) ≡ set (section_words section.counts book) 0 (k + 1)
  unfolding attribute_put
  put_count =
      word-inside section.counts written 0 (k + 1) (omega arith)
      ∙ ap (λ (l : List ℕ). set l 0 (k + 1))
      (row-beside section.counts section.attributes book (attribute_place k) (source, ty, packed.low, packed.high) refl (omega arith) (omega arith))

  put-long : length (attribute_put book k source ty packed) ≡ length book
  unfolding attribute_put put_row
  put-long = simp length-set

  pub attribute-same-length : (next : List ℕ) → next ≡ attribute_put book k source ty packed → length next ≡ length book
  attribute-same-length next e = ap length e ∙ put-long

-- ---- the rows with one more

module _ (D : Declarations) (a : Attribute) where
  stay : AttributesStay D (with_attribute a D)
  unfolding attribute_number
  stay s n k e = place-append (λ b. same_source_and_name b.source b.name s n) D.attributes (a ∷ []) e

  -- pairs are those of the attributes that they were
  module _ (well : WellDeclared D) where
    same-pairs : (i p : ℕ) → is_pair_of (with_attribute a D) i p ≡ is_pair_of D i p
    unfolding is_pair_of
    same-pairs i p = go (nth D.pairs p) refl
      where
        go : (o : math.Option Pair) → nth D.pairs p ≡ o → is_pair_of (with_attribute a D) i p ≡ is_pair_of D i p
        go none e = rw e
        go (some q) e = let d = pair-declared well p q e in rw (e, d.number_is, stay q.source q.name d.number d.number_is)

    same-pair-rows : (p : ℕ) → pair_row D p ≡ pair_row (with_attribute a D) p
    same-pair-rows p = go (nth D.pairs p) refl
      where
        go : (o : math.Option Pair) → nth D.pairs p ≡ o → pair_row D p ≡ pair_row (with_attribute a D) p
        go none e = rw e
        go (some q) e = let d = pair-declared well p q e in rw (e, d.number_is, stay q.source q.name d.number d.number_is)

    module _ (rows : List ℕ) (k : ℕ) (long : length rows ≡ (section.attributes).size) (at : k ≡ length D.attributes) (few : k < attribute_limit)
        (held : AttributeRows rows D) where
      abbrev w : Row
      w = (source_code a.source, type_code a.type, (packed_of a.name).low, (packed_of a.name).high)

      abbrev next : List ℕ
      next = put_row rows (8 * k) w

      rows_more : AttributeRows next (with_attribute a D)
      unfolding masked
      rows_more = record {
        within = omega (arith, length_more D.attributes a);
        row = λ i b e. ⊎_elim (old i b) (λ (z, f). subst (AttributeRow next i) f (last i (z ∙ sym at))) (nth_last D.attributes a i e);
        other = λ i h l. let m = length_more D.attributes a in put_other rows (8 * k) w (8 * i) (λ t u z. omega arith) ∙ held.other i (omega arith) l;
        mask = λ i p h l.
            ap (λ (x : ℕ). bit x (p % 64)) (put_other rows (8 * k) w (8 * i + 4 + p / 64) (λ t u z. omega arith)) ∙ held.mask i p h l ∙ sym (same-pairs i p);
      }
        where
          old : (i : ℕ) (b : Attribute) → nth D.attributes i ≡ some b → AttributeRow next i b
          old i b f =
              let r = held.row i b f in
              let l = nth-lt D.attributes i f in
              record {
                source = put_other rows (8 * k) w (8 * i) (λ t u z. omega arith) ∙ r.source;
                type = put_other rows (8 * k) w (8 * i + 1) (λ t u z. omega arith) ∙ r.type;
                low = put_other rows (8 * k) w (8 * i + 2) (λ t u z. omega arith) ∙ r.low;
                high = put_other rows (8 * k) w (8 * i + 3) (λ t u z. omega arith) ∙ r.high;
              }

          new : AttributeRow next k a
          new =
              let fits : 8 * k + 3 < length rows = omega arith in
              record { source = put-0 rows (8 * k) w fits; type = put_1 rows (8 * k) w fits; low = put_2 rows (8 * k) w fits; high = put_3 rows (8 * k) w fits }

          last : (i : ℕ) → i ≡ k → AttributeRow next i a
          last i z = subst (λ (j : ℕ). AttributeRow next j a) (sym z) new

  counts-more : (words : List ℕ) (k : ℕ) → 0 < length words → k ≡ length D.attributes → CountsOf words D → CountsOf (set words 0 (k + 1)) (with_attribute a D)
  unfolding holder_numbers_of groups
  counts-more words k long at c = record {
    attributes = word_at words 0 (k + 1) 0 long ∙ omega (arith, at, length_more D.attributes a);
    operations = word_at words 0 (k + 1) 1 long ∙ c.operations;
    pairs = word_at words 0 (k + 1) 2 long ∙ c.pairs;
    holders = word_at words 0 (k + 1) 3 long ∙ c.holders;
    groups-are = word_at words 0 (k + 1) 4 long ∙ c.groups-are;
    rules = word_at words 0 (k + 1) 5 long ∙ c.rules;
  }

-- the book with an attribute more
pub attribute-held : (book : List ℕ) (code : Bytes) (S : State) (s : Source) (n : Bytes) (t : AtomType) (k : ℕ) → Holds book code S → WellDeclared S.declared
    → k ≡ length S.declared.attributes → k < attribute_limit
    → Holds (attribute_put book k (source_code s) (type_code t) (packed_of n)) code (after (attr s n t) S)
unfolding after operation_number
attribute-held book code S s n t k held well at few =
    let D = S.declared in
    let a : Attribute = record { source = s; name = n; type = t } in
    let E = with_attribute a D in
    let long = held.long in
    let beside = put-beside book k (source_code s) (type_code t) (packed_of n) few in
    record {
      edition = held.edition;
      long = put-long book k (source_code s) (type_code t) (packed_of n) few ∙ held.long;
      code-long = held.code-long;
      counts =
          subst (λ (w : List ℕ). CountsOf w E) (sym (put_count book k (source_code s) (type_code t) (packed_of n) few))
          (counts-more D a (section_words section.counts book) k (omega (arith, section-long section.counts book (omega arith))) at held.counts);
      attributes =
          subst (λ (w : List ℕ). AttributeRows w E) (sym (put-rows book k (source_code s) (type_code t) (packed_of n) few))
          (rows_more D a well (section_words section.attributes book) k (section-long section.attributes book (omega arith)) at few held.attributes);
      operations = subst (λ (w : List ℕ). OperationRows w E.operations) (sym (beside section.operations refl refl)) held.operations;
      pairs =
          subst (λ (w : List ℕ). Indexed w pair_limit (pair_row E)) (sym (beside section.pairs refl refl))
          (indexed-same (pair_row D) (pair_row E) (same-pair-rows D a well) held.pairs);
      holders = subst (λ (w : List ℕ). Indexed w book_holders (holder_row E)) (sym (beside section.holders refl refl)) held.holders;
      sorts = subst (λ (w : List ℕ). SortRows w E) (sym (beside section.sorts refl refl)) (sorts-kept D E refl (section_words section.sorts book) held.sorts);
      groups = rw (beside section.slots refl refl, beside section.slot_of refl refl) (groups-kept D E refl _ _ held.groups);
      ties = rw (beside section.ups refl refl, beside section.own refl refl, beside section.slots refl refl) held.ties;
      rules =
          subst (λ (w : List ℕ). RuleRows w code E) (sym (beside section.rules refl refl))
          (rules-kept D E (stay D a) (λ i b e. nth-append D.attributes (a ∷ []) i e) (λ o j e. e) refl (λ i r f. (well.rules.each i r f).names-declared) _ code held.rules);
    }

-- ---- the step

pub block-source : (s : Source) → from_block s ≡ leb (source_code Source.env) (source_code s)
block-source Source.user = refl
block-source Source.object = refl
block-source Source.admin = refl
block-source Source.env = refl
block-source Source.connect = refl

text-type : (t : AtomType) → same_type t AtomType.str ≡ eqb (type_code t) (type_code AtomType.str)
text-type AtomType.int = refl
text-type AtomType.str = refl
text-type AtomType.bool = refl

-- the four ways; r is what was found, m the count
module _ (book : List ℕ) (source ty : ℕ) (packed : Packed) where
  sorted : (s : Source) (t : AtomType) → source ≡ source_code s → ty ≡ type_code t
      → (from_block s && same_type t AtomType.str) ≡ block_text source ty
  sorted s t e f =
      ap₂ (λ (x y : Bool). x && y) (block-source s) (text-type t)
      ∙ sym (ap₂ block_text e f)

  pub attribute-sorted : block_text source ty ≡ true → AttributeStep book source ty packed book refusal.wrong_sort
  attribute-sorted on code s n t name from type words S standing held =
      (test-sort S (attr s n t) refl refl refl (sorted s t from type ∙ on), λ z. absurd (omega arith))

  module _ (off : block_text source ty ≡ false) (r : Option ℕ)
      (found : Numbered (section_words section.attributes book) source packed r) where
    pub attribute-repeated : is_some r ≡ true → AttributeStep book source ty packed book refusal.repeated
    attribute-repeated there code s n t name from type words S standing held =
        let e = found.number S.declared standing.declarations held.attributes s n name from words in (
          test-repeated S (attr s n t) refl refl refl (sorted s t from type ∙ off) (number-there (attribute_number S.declared s n) r e there),
          λ z. absurd (omega arith),
        )

    module _ (free : is_some r ≡ false) (m : ℕ) (count : m ≡ get_or book 0 0) where
      new : (s : Source) (n : Bytes) → is_name n ≡ true → source ≡ source_code s → packed_of n ≡ packed → (code : Bytes) (S : State)
          → Standing S → Holds book code S → not (is_none (attribute_number S.declared s n)) ≡ false
      new s n name from words code S standing held =
          ap (λ (o : math.Option ℕ). not (is_none o))
          (number-nowhere (attribute_number S.declared s n) r (found.number S.declared standing.declarations held.attributes s n name from words) free)

      counted : (code : Bytes) (S : State) → Holds book code S → m ≡ length S.declared.attributes
      counted code S held = count ∙ sym (section-word section.counts book 0 (omega arith)) ∙ held.counts.attributes

      pub attribute-full : attribute_limit ≤ m → AttributeStep book source ty packed book refusal.full
      attribute-full over code s n t name from type words S standing held =
          let at = counted code S held in (
            test-full S (attr s n t) refl refl refl (sorted s t from type ∙ off) (new s n name from words code S standing held)
                (le-leb attribute_limit (length S.declared.attributes) (omega arith)),
            λ z. absurd (omega arith),
          )

      pub attribute-step : m < attribute_limit → (next : List ℕ) → next ≡ attribute_put book m source ty packed → AttributeStep book source ty packed next 0
      attribute-step few next e code s n t name from type words S standing held =
          let at = counted code S held in (
            accepted S (attr s n t) refl refl refl (sorted s t from type ∙ off) (new s n name from words code S standing held)
                (lt-leb attribute_limit (length S.declared.attributes) (omega arith)),
            λ _.
                subst (λ (l : List ℕ). Holds l code (after (attr s n t) S))
                (sym
                (e
                ∙ ap₂ (λ (x y : ℕ). attribute_put book m x y packed) from type
                ∙ ap (attribute_put book m (source_code s) (type_code t)) (sym words)))
                (attribute-held book code S s n t m held standing.declarations at few),
          )
