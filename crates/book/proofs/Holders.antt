-- A holder more: the book with it holds the state with it. Assumes nothing.
use Prim.Native.Nat.{ℕ, suc, ◌+◌, ◌<◌}
use mathlib.Core.Path.{◌≡◌, refl, sym, ap, subst, ◌∙◌}
use mathlib.Core.Bool.{true, false, ◌&&◌, true≢false}
use mathlib.Core.List.{List}
use mathlib.Core.Option.{Option, none, some, some-injective}
use native.Mathlib.Decide.{ℕ_discrete, dec_lt}
use native.Mathlib.Omega.{arith}
use lib.ListN.{length, get_or, set, length-set}
use lib.Seq.{get_or-set_same, get_or-set_other}
use lib.Dec.{ltb}
use borrow.Author.Tests.{eq-eqb, ne_eqb}
use Rattle.model.specs.Notation.{if◌then◌otherwise◌, ◌>>=◌}
use Rattle.model.specs.Limits.{pair_limit, group_limit}
use Rattle.model.specs.Bytes.{Bytes}
use Rattle.model.specs.Declarations.{Declarations, Holder, Sort, attribute_number, operation_number, holder_of, holder_numbers_of, is_group, groups, sort_of}
use Rattle.model.specs.Ties.{Ties}
use Rattle.model.specs.State.{with_holder}
use Rattle.model.proofs.WordTables.{none-is-some}
use Rattle.model.proofs.Numbered.{length_inserted, count-inserted, length-map}
use Rattle.model.proofs.Declared.{holder-with}
use Rattle.codes.specs.Codes.{coded}
use Rattle.text.specs.declared.Packed.{Packed}
use Rattle.text.specs.Packing.{packed_of}
use Rattle.rows.specs.Rows.{AttributeRows, is_pair_of}
use Rattle.index.specs.Index.{Row, Indexed, Added, with_row}
use Rattle.index.proofs.Listed.{indexed-same}
use Rattle.ties.specs.TieArrays.{in_use, KeepsTies}
use Rattle.ties.proofs.Editing.{slot-given}
use Rattle.book.specs.Sections as section
use Rattle.book.specs.Sections.{Section, section_words, book_words, book_holders}
use Rattle.book.specs.Held.{CountsOf, OperationRows, SortRows, GroupSlots, RuleRows, Holds, pair_row, holder_row, sort_code}
use Rattle.book.specs.Declaring.{with_section, holder_put, HolderPut, group_put}
use Rattle.book.proofs.Writes.{apart, word-beside, word-inside, section-beside, section-inside, section-long, section-same-length, word_at}
use Rattle.book.proofs.Finding.{row_of_name}
use Rattle.book.proofs.Kept.{NamesKnown, rules-kept, attributes-kept}

-- ---- what is written, by sections

module _ (book : List ℕ) (n sort : ℕ) (rows : List ℕ) (long : length book ≡ book_words) (few : n < book_holders) (rows_long : length rows ≡ (section.holders).size) where
  abbrev h1 : List ℕ
  h1 = with_section section.holders book rows

  abbrev h2 : List ℕ
  h2 = set h1 ((section.sorts).start + n) sort

  holder-beside : (s : Section) → apart s section.holders ≡ true → apart s section.sorts ≡ true → apart s section.counts ≡ true
      → section_words s (holder_put book n sort rows) ≡ section_words s book
  unfolding holder_put
  holder-beside s a b c =
      word-beside s section.counts h2 c 3 (n + 1) (omega arith) (omega arith)
      ∙ word-beside s section.sorts h1 b ((section.sorts).start + n) sort (omega arith) (omega arith)
      ∙ section-beside s section.holders book a rows (omega arith) rows_long

  holder-row : section_words section.holders (holder_put book n sort rows) ≡ rows
  unfolding holder_put
  holder-row =
      word-beside section.holders section.counts h2 refl 3 (n + 1) (omega arith) (omega arith)
      ∙ word-beside section.holders section.sorts h1 refl ((section.sorts).start + n) sort (omega arith) (omega arith)
      ∙ section-inside section.holders book rows (omega arith) rows_long

  holder-sort : section_words section.sorts (holder_put book n sort rows) ≡ set (section_words section.sorts book) n sort
  unfolding holder_put
  holder-sort =
      word-beside section.sorts section.counts h2 refl 3 (n + 1) (omega arith) (omega arith)
      ∙ word-inside section.sorts h1 n sort (omega arith)
      ∙ ap (λ (l : List ℕ). set l n sort) (section-beside section.sorts section.holders book refl rows (omega arith) rows_long)

  holder-count : section_words section.counts (holder_put book n sort rows) ≡ set (section_words section.counts book) 3 (n + 1)
  unfolding holder_put
  holder-count =
      word-inside section.counts h2 3 (n + 1) (omega arith)
      ∙ ap (λ (l : List ℕ). set l 3 (n + 1))
      (word-beside section.counts section.sorts h1 refl ((section.sorts).start + n) sort (omega arith) (omega arith)
      ∙ section-beside section.counts section.holders book refl rows (omega arith) rows_long)

  holder-long : length (holder_put book n sort rows) ≡ length book
  unfolding holder_put
  holder-long =
      length-set h2 3 (n + 1) ∙ length-set h1 ((section.sorts).start + n) sort ∙ section-same-length section.holders book rows (omega arith) rows_long

module _ (book : List ℕ) (n sort : ℕ) (packed : Packed) (long : length book ≡ book_words) (few : n < book_holders) where
  put-long : {next : List ℕ} (put : HolderPut book n sort packed next) → length put.rows ≡ (section.holders).size
  put-long put = put.row.long ∙ section-long section.holders book (omega arith)

  pub holder-same-length : (next : List ℕ) → HolderPut book n sort packed next → length next ≡ length book
  holder-same-length next put = ap length put.written ∙ holder-long book n sort put.rows long few (put-long put)

  -- what the code writes
  module _ (t : List ℕ) (adds : Added (section_words section.holders book) t n (row_of_name packed)) where
    pub wrote-holder : HolderPut book n sort packed (set (set (with_section section.holders book t) ((section.sorts).start + n) sort) 3 (n + 1))
    unfolding holder_put
    wrote-holder = record { rows = t; row = adds; written = refl }

    pub wrote-long : (i v : ℕ) → length (set (with_section section.holders book t) i v) ≡ book_words
    wrote-long i v =
        length-set (with_section section.holders book t) i v
        ∙ section-same-length section.holders book t (omega arith) (adds.long ∙ section-long section.holders book (omega arith))
        ∙ long

module _ (book : List ℕ) (n g : ℕ) (long : length book ≡ book_words) (few : n < book_holders) (low : g < group_limit) where
  abbrev slots : List ℕ
  slots = set (section_words section.slots book) g n

  abbrev g1 : List ℕ
  g1 = with_section section.slots book slots

  abbrev g2 : List ℕ
  g2 = set g1 ((section.slot_of).start + n) (g + 1)

  slots-long : length slots ≡ (section.slots).size
  slots-long = length-set (section_words section.slots book) g n ∙ section-long section.slots book (omega arith)

  group-beside : (s : Section) → apart s section.slots ≡ true → apart s section.slot_of ≡ true → apart s section.counts ≡ true
      → section_words s (group_put book n g) ≡ section_words s book
  unfolding group_put
  group-beside s a b c =
      word-beside s section.counts g2 c 4 (g + 1) (omega arith) (omega arith)
      ∙ word-beside s section.slot_of g1 b ((section.slot_of).start + n) (g + 1) (omega arith) (omega arith)
      ∙ section-beside s section.slots book a slots (omega arith) slots-long

  group-slots : section_words section.slots (group_put book n g) ≡ set (section_words section.slots book) g n
  unfolding group_put
  group-slots =
      word-beside section.slots section.counts g2 refl 4 (g + 1) (omega arith) (omega arith)
      ∙ word-beside section.slots section.slot_of g1 refl ((section.slot_of).start + n) (g + 1) (omega arith) (omega arith)
      ∙ section-inside section.slots book slots (omega arith) slots-long

  group-slot-of : section_words section.slot_of (group_put book n g) ≡ set (section_words section.slot_of book) n (g + 1)
  unfolding group_put
  group-slot-of =
      word-beside section.slot_of section.counts g2 refl 4 (g + 1) (omega arith) (omega arith)
      ∙ word-inside section.slot_of g1 n (g + 1) (omega arith)
      ∙ ap (λ (l : List ℕ). set l n (g + 1)) (section-beside section.slot_of section.slots book refl slots (omega arith) slots-long)

  group-count : section_words section.counts (group_put book n g) ≡ set (section_words section.counts book) 4 (g + 1)
  unfolding group_put
  group-count =
      word-inside section.counts g2 4 (g + 1) (omega arith)
      ∙ ap (λ (l : List ℕ). set l 4 (g + 1))
      (word-beside section.counts section.slot_of g1 refl ((section.slot_of).start + n) (g + 1) (omega arith) (omega arith)
      ∙ section-beside section.counts section.slots book refl slots (omega arith) slots-long)

  group-long : length (group_put book n g) ≡ length book
  unfolding group_put
  group-long =
      length-set g2 4 (g + 1) ∙ length-set g1 ((section.slot_of).start + n) (g + 1) ∙ section-same-length section.slots book slots (omega arith) slots-long

  pub group-same-length : (next : List ℕ) → next ≡ group_put book n g → length next ≡ length book
  group-same-length next e = ap length e ∙ group-long

  pub wrote-group : (t : List ℕ) → t ≡ set (section_words section.slots book) g n
      → set (set (with_section section.slots book t) ((section.slot_of).start + n) (g + 1)) 4 (g + 1) ≡ group_put book n g
  unfolding group_put
  wrote-group t e = ap (λ (l : List ℕ). set (set (with_section section.slots book l) ((section.slot_of).start + n) (g + 1)) 4 (g + 1)) e

  pub wrote-slots-long : (t : List ℕ) → t ≡ set (section_words section.slots book) g n → (i v : ℕ) → length (set (with_section section.slots book t) i v) ≡ book_words
  wrote-slots-long t e i v =
      length-set (with_section section.slots book t) i v
      ∙ section-same-length section.slots book t (omega arith) (ap length e ∙ slots-long)
      ∙ long

-- ---- the declarations with a holder more

module _ (D : Declarations) (h : Holder) (free : holder_of D h.number ≡ none) where
  abbrev E : Declarations
  E = with_holder h D

  sort-new : sort_of E h.number ≡ some h.sort
  unfolding sort_of
  sort-new = holder-with D h free h.number (λ o. (o >>= λ x. some x.sort) ≡ some h.sort) (λ e. refl) (λ e. absurd (e refl))

  sort-old : (k : ℕ) → (k ≡ h.number → ⊥) → sort_of E k ≡ sort_of D k
  unfolding sort_of
  sort-old k other = holder-with D h free k (λ o. (o >>= λ x. some x.sort) ≡ (holder_of D k >>= λ x. some x.sort)) (λ e. absurd (other (sym e))) (λ e. refl)

  -- who was there has another number
  sort-other : (k : ℕ) (s : Sort) → sort_of D k ≡ some s → k ≡ h.number → ⊥
  unfolding sort_of
  sort-other k s e z = none-is-some (sym (ap (λ (o : Option Holder). o >>= λ x. some x.sort) (ap (holder_of D) z ∙ free)) ∙ e)

  groups-more : groups E ≡ groups D + (if is_group h.sort then 1 otherwise 0)
  unfolding groups
  groups-more = count-inserted (λ x. x.number) h (λ x. is_group x.sort) D.holders

  groups-plain : is_group h.sort ≡ false → groups E ≡ groups D
  groups-plain e = let m = rw e at groups-more in omega arith

  groups-one : is_group h.sort ≡ true → groups E ≡ groups D + 1
  groups-one e = rw e at groups-more

  -- its row in the index, and its sort
  rows_more : (s t : List ℕ) (n : ℕ) → n ≡ h.number → Added s t n (row_of_name (packed_of h.name)) → Indexed s book_holders (holder_row D)
      → Indexed t book_holders (holder_row E)
  rows_more s t n at adds ix =
      indexed-same (with_row (holder_row D) n w) (holder_row E) same
      (adds.index book_holders (holder_row D) ix (λ z. omega arith) (ap (λ (o : Option Holder). o >>= λ x. some (row_of_name (packed_of x.name))) (ap (holder_of D) at ∙ free)))
    where
      w : Row
      w = row_of_name (packed_of h.name)

      same : (k : ℕ) → with_row (holder_row D) n w k ≡ holder_row E k
      same k =
          holder-with D h free k (λ o. with_row (holder_row D) n w k ≡ (o >>= λ x. some (row_of_name (packed_of x.name))))
          (λ e. rw (eq-eqb k n (sym (at ∙ e))) refl) (λ e. rw (ne_eqb k n (λ z. e (sym (z ∙ at)))) refl)

  sorts-more : (words : List ℕ) (n : ℕ) → length words ≡ book_holders → n ≡ h.number → n < book_holders → SortRows words D
      → SortRows (set words n (sort_code h.sort)) E
  sorts-more words n long at few rows k l = go (ℕ_discrete k n)
    where
      go : Dec (k ≡ n) → get_or (set words n (sort_code h.sort)) k 0 ≡ coded sort_code (sort_of E k)
      go (yes z) =
          ap (λ (j : ℕ). get_or (set words n (sort_code h.sort)) j 0) z
          ∙ get_or-set_same words n (sort_code h.sort) 0 (omega arith)
          ∙ sym (ap (λ (j : ℕ). coded sort_code (sort_of E j)) (z ∙ at) ∙ ap (coded sort_code) sort-new)
      go (no z) =
          get_or-set_other words n k (sort_code h.sort) 0 z ∙ rows k l ∙ ap (coded sort_code) (sym (sort-old k (λ e. z (e ∙ sym at))))

  -- no group: the words of slots stay
  slots-plain : (slots slot_of : List ℕ) → is_group h.sort ≡ false → GroupSlots slots slot_of D → GroupSlots slots slot_of E
  slots-plain slots slot_of no-group g = record {
    in-slot = λ k s e i. go k s e i (ℕ_discrete k h.number);
    no_slot = λ k l f. g.no_slot k l (λ s e. f s (sort-old k (sort-other k s e) ∙ e));
    taken = λ q l. let (s, e, i) = g.taken q (omega (arith, groups-plain no-group)) in (s, sort-old _ (sort-other _ s e) ∙ e, i);
    free = λ q l m. g.free q (omega (arith, groups-plain no-group)) m;
  }
    where
      go : (k : ℕ) (s : Sort) → sort_of E k ≡ some s → is_group s ≡ true → Dec (k ≡ h.number)
          → (q : ℕ) × (get_or slot_of k 0 ≡ suc q) × (q < groups E) × (get_or slots q 0 ≡ k)
      go k s e i (yes z) =
          absurd (true≢false (sym i ∙ ap is_group (some-injective _ _ (sym e ∙ ap (sort_of E) z ∙ sort-new)) ∙ no-group))
      go k s e i (no z) =
          let (q, a, b, c) = g.in-slot k s (sym (sort-old k z) ∙ e) i in
          (q, a, omega (arith, groups-plain no-group), c)

  -- a group: it has the next slot
  module _ (slots slot_of : List ℕ) (n q : ℕ) (is-group : is_group h.sort ≡ true) (at : n ≡ h.number) (next : q ≡ groups D) (few : n < book_holders)
      (low : q < group_limit) (long : length slots ≡ group_limit) (long' : length slot_of ≡ book_holders) (g : GroupSlots slots slot_of D) where
    slots-group : GroupSlots (set slots q n) (set slot_of n (q + 1)) E
    slots-group = record {
      in-slot = λ k s e i. sits k s e i (ℕ_discrete k n);
      no_slot = λ k l f. stands k l f (ℕ_discrete k n);
      taken = λ r l. takes r l (ℕ_discrete r q);
      free = λ r l m. let z = groups-one is-group in get_or-set_other slots q r n 0 (λ y. omega arith) ∙ g.free r (omega arith) m;
    }
      where
        sits : (k : ℕ) (s : Sort) → sort_of E k ≡ some s → is_group s ≡ true → Dec (k ≡ n)
            → (r : ℕ) × (get_or (set slot_of n (q + 1)) k 0 ≡ suc r) × (r < groups E) × (get_or (set slots q n) r 0 ≡ k)
        sits k s e i (yes z) = (
          q,
          ap (λ (j : ℕ). get_or (set slot_of n (q + 1)) j 0) z ∙ get_or-set_same slot_of n (q + 1) 0 (omega arith) ∙ omega arith,
          omega (arith, groups-one is-group),
          get_or-set_same slots q n 0 (omega arith) ∙ sym z,
        )
        sits k s e i (no z) =
            let (r, a, b, c) = g.in-slot k s (sym (sort-old k (λ y. z (y ∙ sym at))) ∙ e) i in (
              r,
              get_or-set_other slot_of n k (q + 1) 0 z ∙ a,
              omega (arith, groups-one is-group),
              get_or-set_other slots q r n 0 (λ y. omega arith) ∙ c,
            )

        stands : (k : ℕ) → k < book_holders → ((s : Sort) → sort_of E k ≡ some s → is_group s ≡ false) → Dec (k ≡ n) → get_or (set slot_of n (q + 1)) k 0 ≡ 0
        stands k l f (yes z) = absurd (true≢false (sym is-group ∙ f h.sort (ap (sort_of E) (z ∙ at) ∙ sort-new)))
        stands k l f (no z) =
            get_or-set_other slot_of n k (q + 1) 0 z ∙ g.no_slot k l (λ s e. f s (sort-old k (λ y. z (y ∙ sym at)) ∙ e))

        takes : (r : ℕ) → r < groups E → Dec (r ≡ q) → (s : Sort) × (sort_of E (get_or (set slots q n) r 0) ≡ some s) × (is_group s ≡ true)
        takes r l (yes z) = (
          h.sort,
          ap (sort_of E) (ap (λ (j : ℕ). get_or (set slots q n) j 0) z ∙ get_or-set_same slots q n 0 (omega arith) ∙ at) ∙ sort-new,
          is-group,
        )
        takes r l (no z) =
            let (s, e, i) = g.taken r (omega (arith, groups-one is-group)) in (
              s,
              ap (sort_of E) (get_or-set_other slots q r n 0 z) ∙ sort-old (get_or slots r 0) (sort-other (get_or slots r 0) s e) ∙ e,
              i,
            )

    -- the ties stay
    ties-group : (ups own : List ℕ) (T : Ties) → 0 < n → KeepsTies ups own slots T → KeepsTies ups own (set slots q n) T
    unfolding in_use
    ties-group ups own T some-holder kept =
        (slot-given slots q n (omega arith)).keeps ups own T kept
        (ap (λ (w : ℕ). ltb 0 w && ltb w (length ups)) (g.free q (omega arith) low))
        (λ r l e. other r l e (dec_lt r (groups D)))
      where
        other : (r : ℕ) → r < group_limit → get_or slots r 0 ≡ n → Dec (r < groups D) → ⊥
        other r l e (yes m) = let (s, f, i) = g.taken r m in sort-other (get_or slots r 0) s f (e ∙ at)
        other r l e (no m) = let z = g.free r (omega arith) l in omega arith

  -- the counts
  counts-plain : (words : List ℕ) (n : ℕ) → 3 < length words → n ≡ length D.holders → is_group h.sort ≡ false → CountsOf words D → CountsOf (set words 3 (n + 1)) E
  unfolding holder_numbers_of
  counts-plain words n long at no-group c = record {
    attributes = word_at words 3 (n + 1) 0 long ∙ c.attributes;
    operations = word_at words 3 (n + 1) 1 long ∙ c.operations;
    pairs = word_at words 3 (n + 1) 2 long ∙ c.pairs;
    holders = word_at words 3 (n + 1) 3 long ∙ omega (arith, at, length_inserted (λ x. x.number) h D.holders) ∙ sym (length-map (λ x. x.number) E.holders);
    groups-are = word_at words 3 (n + 1) 4 long ∙ c.groups-are ∙ sym (groups-plain no-group);
    rules = word_at words 3 (n + 1) 5 long ∙ c.rules;
  }

  counts-group : (words : List ℕ) (n q : ℕ) → 4 < length words → n ≡ length D.holders → q ≡ groups D → is_group h.sort ≡ true → CountsOf words D
      → CountsOf (set (set words 3 (n + 1)) 4 (q + 1)) E
  unfolding holder_numbers_of
  counts-group words n q long at next is-group c =
      let w = set words 3 (n + 1) in
      let l : 3 < length words = omega arith in
      let l' : 4 < length w = subst (λ (m : ℕ). 4 < m) (sym (length-set words 3 (n + 1))) long in
      record {
        attributes = word_at w 4 (q + 1) 0 l' ∙ word_at words 3 (n + 1) 0 l ∙ c.attributes;
        operations = word_at w 4 (q + 1) 1 l' ∙ word_at words 3 (n + 1) 1 l ∙ c.operations;
        pairs = word_at w 4 (q + 1) 2 l' ∙ word_at words 3 (n + 1) 2 l ∙ c.pairs;
        holders = word_at w 4 (q + 1) 3 l' ∙ word_at words 3 (n + 1) 3 l ∙ omega (arith, at, length_inserted (λ x. x.number) h D.holders) ∙ sym (length-map (λ x. x.number) E.holders);
        groups-are = word_at w 4 (q + 1) 4 l' ∙ omega (arith, next, groups-one is-group);
        rules = word_at w 4 (q + 1) 5 l' ∙ word_at words 3 (n + 1) 5 l ∙ c.rules;
      }

-- ---- the book with a holder more

-- from the sections that change; the others are as they were
record Grown (book next : List ℕ) (D : Declarations) (T : Ties) (h : Holder) (n : ℕ) : Type 0 where
  size : length next ≡ length book
  same : (s : Section) → apart s section.holders ≡ true → apart s section.sorts ≡ true → apart s section.counts ≡ true → apart s section.slots ≡ true
      → apart s section.slot_of ≡ true → section_words s next ≡ section_words s book
  counted : CountsOf (section_words section.counts next) (with_holder h D)
  row : Indexed (section_words section.holders next) book_holders (holder_row (with_holder h D))
  sort : section_words section.sorts next ≡ set (section_words section.sorts book) n (sort_code h.sort)
  slotted : GroupSlots (section_words section.slots next) (section_words section.slot_of next) (with_holder h D)
  tied : KeepsTies (section_words section.ups next) (section_words section.own next) (section_words section.slots next) T

grown-held : (book next : List ℕ) (code : Bytes) (D : Declarations) (T : Ties) (h : Holder) (n : ℕ) → Holds book code (record { declared = D; ties = T }) → NamesKnown D
    → holder_of D h.number ≡ none → n ≡ h.number → n < book_holders → Grown book next D T h n → Holds next code (record { declared = with_holder h D; ties = T })
unfolding attribute_number operation_number is_pair_of
grown-held book next code D T h n held known free at few grown =
    let E = with_holder h D in
    let long = held.long in
    let same = grown.same in
    record {
      edition = held.edition;
      long = grown.size ∙ held.long;
      code-long = held.code-long;
      counts = grown.counted;
      attributes =
          subst (λ (w : List ℕ). AttributeRows w E) (sym (same section.attributes refl refl refl refl refl)) (attributes-kept D E refl (λ i p. refl) _ held.attributes);
      operations = subst (λ (w : List ℕ). OperationRows w E.operations) (sym (same section.operations refl refl refl refl refl)) held.operations;
      pairs = subst (λ (w : List ℕ). Indexed w pair_limit (pair_row E)) (sym (same section.pairs refl refl refl refl refl)) held.pairs;
      holders = grown.row;
      sorts =
          subst (λ (w : List ℕ). SortRows w E) (sym grown.sort)
          (sorts-more D h free (section_words section.sorts book) n (section-long section.sorts book (omega arith)) at few held.sorts);
      groups = grown.slotted;
      ties = grown.tied;
      rules =
          subst (λ (w : List ℕ). RuleRows w code E) (sym (same section.rules refl refl refl refl refl))
          (rules-kept D E (λ s m j e. e) (λ i a e. e) (λ o j e. e) refl known _ code held.rules);
    }

module _ (book : List ℕ) (code : Bytes) (D : Declarations) (T : Ties) (h : Holder) (n : ℕ) (held : Holds book code (record { declared = D; ties = T }))
    (known : NamesKnown D) (free : holder_of D h.number ≡ none) (at : n ≡ h.number) (next-number : n ≡ length D.holders) (few : n < book_holders)
    (put : List ℕ) (wrote : HolderPut book n (sort_code h.sort) (packed_of h.name) put) where
  long : length book ≡ book_words
  long = held.long

  rows_long : length wrote.rows ≡ (section.holders).size
  rows_long = put-long book n (sort_code h.sort) (packed_of h.name) long few wrote

  in-put : (P : List ℕ → Type 0) → P (holder_put book n (sort_code h.sort) wrote.rows) → P put
  in-put P x = subst P (sym wrote.written) x

  beside : (s : Section) → apart s section.holders ≡ true → apart s section.sorts ≡ true → apart s section.counts ≡ true → section_words s put ≡ section_words s book
  beside s a b c = ap (section_words s) wrote.written ∙ holder-beside book n (sort_code h.sort) wrote.rows long few rows_long s a b c

  put-words : length put ≡ length book
  put-words = ap length wrote.written ∙ holder-long book n (sort_code h.sort) wrote.rows long few rows_long

  counts-are : section_words section.counts put ≡ set (section_words section.counts book) 3 (n + 1)
  counts-are = ap (section_words section.counts) wrote.written ∙ holder-count book n (sort_code h.sort) wrote.rows long few rows_long

  sorts-are : section_words section.sorts put ≡ set (section_words section.sorts book) n (sort_code h.sort)
  sorts-are = ap (section_words section.sorts) wrote.written ∙ holder-sort book n (sort_code h.sort) wrote.rows long few rows_long

  rows_are : section_words section.holders put ≡ wrote.rows
  rows_are = ap (section_words section.holders) wrote.written ∙ holder-row book n (sort_code h.sort) wrote.rows long few rows_long

  indexed : Indexed wrote.rows book_holders (holder_row (with_holder h D))
  indexed = rows_more D h free (section_words section.holders book) wrote.rows n at wrote.row held.holders

  -- one that is no group
  pub holder-held : is_group h.sort ≡ false → Holds put code (record { declared = with_holder h D; ties = T })
  holder-held no-group =
      grown-held book put code D T h n held known free at few (record {
        size = put-words;
        same = λ s a b c d e. beside s a b c;
        counted =
            subst (λ (w : List ℕ). CountsOf w (with_holder h D)) (sym counts-are)
            (counts-plain D h free (section_words section.counts book) n (omega (arith, long, section-long section.counts book (omega (arith, long)))) next-number no-group held.counts);
        row = subst (λ (w : List ℕ). Indexed w book_holders (holder_row (with_holder h D))) (sym rows_are) indexed;
        sort = sorts-are;
        slotted =
            rw (beside section.slots refl refl refl, beside section.slot_of refl refl refl)
            (slots-plain D h free (section_words section.slots book) (section_words section.slot_of book) no-group held.groups);
        tied = rw (beside section.ups refl refl refl, beside section.own refl refl refl, beside section.slots refl refl refl) held.ties;
      })

  -- a group, with the next slot
  pub group-held : is_group h.sort ≡ true → (g : ℕ) → g ≡ groups D → g < group_limit → 0 < n
      → Holds (group_put put n g) code (record { declared = with_holder h D; ties = T })
  group-held is-group g next low some-holder =
      let long' : length put ≡ book_words = put-words ∙ long in
      let beside' = group-beside put n g long' few low in
      let slots = section_words section.slots book in
      let slot_of = section_words section.slot_of book in
      let slots-are : section_words section.slots (group_put put n g) ≡ set slots g n =
      group-slots put n g long' few low ∙ ap (λ (l : List ℕ). set l g n) (beside section.slots refl refl refl) in
      let slot-of-are : section_words section.slot_of (group_put put n g) ≡ set slot_of n (g + 1) =
      group-slot-of put n g long' few low ∙ ap (λ (l : List ℕ). set l n (g + 1)) (beside section.slot_of refl refl refl) in
      let slots-long = section-long section.slots book (omega (arith, long)) in
      let slot-of-long = section-long section.slot_of book (omega (arith, long)) in
      grown-held book (group_put put n g) code D T h n held known free at few (record {
        size = group-long put n g long' few low ∙ put-words;
        same = λ s a b c d e. beside' s d e c ∙ beside s a b c;
        counted =
            subst (λ (w : List ℕ). CountsOf w (with_holder h D))
            (sym (group-count put n g long' few low ∙ ap (λ (l : List ℕ). set l 4 (g + 1)) counts-are))
            (counts-group D h free (section_words section.counts book) n g (omega (arith, long, section-long section.counts book (omega (arith, long)))) next-number next is-group held.counts);
        row = subst (λ (w : List ℕ). Indexed w book_holders (holder_row (with_holder h D))) (sym (beside' section.holders refl refl refl ∙ rows_are)) indexed;
        sort = beside' section.sorts refl refl refl ∙ sorts-are;
        slotted =
            rw (slots-are, slot-of-are)
            (slots-group D h free slots slot_of n g is-group at next few low slots-long slot-of-long held.groups);
        tied =
            rw (beside' section.ups refl refl refl ∙ beside section.ups refl refl refl, beside' section.own refl refl refl ∙ beside section.own refl refl refl, slots-are)
            (ties-group D h free slots slot_of n g is-group at next few low slots-long slot-of-long held.groups (section_words section.ups book) (section_words section.own book) T some-holder
            held.ties);
      })
