-- A pair more: the book with it holds the state with it. Assumes nothing.
use Prim.Native.Nat.{ℕ, ◌+◌, ◌*◌, ◌/◌, ◌%◌, ◌≤◌, ◌<◌}
use mathlib.Core.Path.{◌≡◌, refl, sym, ap, ap₂, subst, ◌∙◌}
use mathlib.Core.Bool.{Bool, true, false, ◌&&◌, ◌||◌}
use mathlib.Core.List.{List}
use mathlib.Core.Option.{Option, none, some}
use native.Mathlib.Decide.{ℕ_discrete}
use native.Mathlib.Omega.{arith}
use lib.Dec.{eqb}
use lib.ListN.{length, get_or, set, length-set}
use lib.Seq.{get_or-set_other}
use borrow.Author.Tests.{eq-eqb, ne_eqb, eqb-true}
use Rattle.model.specs.Notation.{if◌then◌otherwise◌, ◌>>=◌, ◌is◌, nth}
use Rattle.model.specs.Limits.{attribute_limit, pair_limit, word_bits}
use Rattle.model.specs.Bytes.{Bytes}
use Rattle.model.specs.Declarations.{Declarations, Pair, attribute_number, operation_number, holder_numbers_of, groups}
use Rattle.model.specs.Ties.{Ties}
use Rattle.model.specs.State.{with_pair}
use Rattle.model.proofs.Options.{parts, both, no_result}
use Rattle.model.proofs.Lists.{same_truth, nth-lt}
use Rattle.text.specs.declared.Words.{Words}
use Rattle.text.specs.Values.{atom_words}
use Rattle.bits.specs.Bits.{bit, Bits, member}
use Rattle.bits.proofs.Sets.{member-with}
use Rattle.rows.specs.Rows.{AttributeRows, is_pair_of, masked}
use Rattle.index.specs.Index.{Row, Indexed, Added, with_row}
use Rattle.index.proofs.Listed.{indexed-same}
use Rattle.book.specs.Sections as section
use Rattle.book.specs.Sections.{Section, section_words, book_words, book_holders}
use Rattle.book.specs.Held.{CountsOf, OperationRows, SortRows, RuleRows, Holds, pair_row, holder_row}
use Rattle.book.specs.Declaring.{with_section, mask_place, pair_put, PairPut}
use Rattle.book.proofs.Writes.{apart, word-beside, word-inside, section-beside, section-inside, section-long, section-same-length, section-word, word_at}
use Rattle.book.proofs.Finding.{row_of_words}
use Rattle.book.proofs.Kept.{nth-new, nth-old, length_more, NamesKnown, rules-kept, sorts-kept, groups-kept}

-- ---- what is written, by sections

module _ (book : List ℕ) (n k mask : ℕ) (rows : List ℕ) (long : length book ≡ book_words) (few : n < pair_limit) (low : k < attribute_limit) (rows_long : length rows ≡ (section.pairs).size) where
  abbrev marked : List ℕ
  marked = set book (mask_place k n) mask

  marked-long : length marked ≡ book_words
  marked-long = length-set book (mask_place k n) mask ∙ long

  abbrev placed : List ℕ
  placed = with_section section.pairs marked rows

  put-beside : (s : Section) → apart s section.attributes ≡ true → apart s section.pairs ≡ true → apart s section.counts ≡ true
      → section_words s (pair_put book n k mask rows) ≡ section_words s book
  unfolding pair_put
  put-beside s a b c =
      let m = marked-long in
      word-beside s section.counts placed c 2 (n + 1) (omega arith) (omega arith)
      ∙ section-beside s section.pairs marked b rows (omega arith) rows_long
      ∙ word-beside s section.attributes book a (mask_place k n) mask (omega arith) (omega arith)

  put-row : section_words section.pairs (pair_put book n k mask rows) ≡ rows
  unfolding pair_put
  put-row =
      let m = marked-long in
      word-beside section.pairs section.counts placed refl 2 (n + 1) (omega arith) (omega arith)
      ∙ section-inside section.pairs marked rows (omega arith) rows_long

  put-mask : section_words section.attributes (pair_put book n k mask rows) ≡ set (section_words section.attributes book) (8 * k + 4 + n / 64) mask
  unfolding pair_put
  put-mask =
      let m = marked-long in
      word-beside section.attributes section.counts placed refl 2 (n + 1) (omega arith) (omega arith)
      ∙ section-beside section.attributes section.pairs marked refl rows (omega arith) rows_long
      ∙ word-inside section.attributes book (8 * k + 4 + n / 64) mask (omega arith)

  put_count : section_words section.counts (pair_put book n k mask rows) ≡ set (section_words section.counts book) 2 (n + 1)
  unfolding pair_put
  put_count =
      let m = marked-long in
      word-inside section.counts placed 2 (n + 1) (omega arith)
      ∙ ap (λ (l : List ℕ). set l 2 (n + 1))
      (section-beside section.counts section.pairs marked refl rows (omega arith) rows_long
      ∙ word-beside section.counts section.attributes book refl (mask_place k n) mask (omega arith) (omega arith))

  put-long : length (pair_put book n k mask rows) ≡ length book
  unfolding pair_put
  put-long =
      let m = marked-long in
      length-set placed 2 (n + 1) ∙ section-same-length section.pairs marked rows (omega arith) rows_long ∙ length-set book (mask_place k n) mask

-- what the code writes: the section is that of the book with the mask's word
module _ (book : List ℕ) (n k : ℕ) (words : Words) (mask : ℕ) (long : length book ≡ book_words) (few : n < pair_limit) (low : k < attribute_limit)
    (t : List ℕ) (adds : Added (section_words section.pairs (set book (mask_place k n) mask)) t n (row_of_words k words)) where
  same-pairs : section_words section.pairs (set book (mask_place k n) mask) ≡ section_words section.pairs book
  same-pairs = word-beside section.pairs section.attributes book refl (mask_place k n) mask (omega arith) (omega arith)

  pub wrote-pair : Bits mask (λ j. bit (get_or book (mask_place k n) 0) j || eqb j (n % word_bits))
      → PairPut book n k words (set (with_section section.pairs (set book (mask_place k n) mask) t) 2 (n + 1))
  unfolding pair_put
  wrote-pair bits = record { mask = mask; rows = t; marked = bits; row = subst (λ (l : List ℕ). Added l t n (row_of_words k words)) same-pairs adds; written = refl }

  pub wrote-long : length (with_section section.pairs (set book (mask_place k n) mask) t) ≡ book_words
  wrote-long =
      let m = marked-long book n k mask t long few low in
      let l = length-set book (mask_place k n) mask in
      section-same-length section.pairs (set book (mask_place k n) mask) t (omega arith) (adds.long ∙ section-long section.pairs (set book (mask_place k n) mask) (omega arith)) ∙ l ∙ long

pub rows_long : {book : List ℕ} {n k : ℕ} {words : Words} {next : List ℕ} → length book ≡ book_words → (put : PairPut book n k words next) → length put.rows ≡ (section.pairs).size
rows_long {book} long put = put.row.long ∙ section-long section.pairs book (omega arith)

pub pair-same-length : (book : List ℕ) (n k : ℕ) (words : Words) (next : List ℕ) → length book ≡ book_words → n < pair_limit → k < attribute_limit
    → PairPut book n k words next → length next ≡ length book
pair-same-length book n k words next long few low put = ap length put.written ∙ put-long book n k put.mask put.rows long few low (rows_long long put)

-- ---- the rows with one more

-- the mask of an attribute's row is a set: its numbers are those from 64 (8 i + 4) on
mask-member : (rows : List ℕ) (i p : ℕ) → masked rows i p ≡ member rows (64 * (8 * i + 4) + p)
unfolding masked member
mask-member rows i p =
    let e : 8 * i + 4 + p / 64 ≡ (64 * (8 * i + 4) + p) / 64 = omega arith in
    let f : p % 64 ≡ (64 * (8 * i + 4) + p) % 64 = omega arith in
    ap₂ (λ (x y : ℕ). bit (get_or rows x 0) y) e f

mask-more : (rows : List ℕ) (k n mask : ℕ) → length rows ≡ (section.attributes).size → k < attribute_limit → n < pair_limit
    → Bits mask (λ j. bit (get_or rows (8 * k + 4 + n / 64) 0) j || eqb j (n % 64)) → (i p : ℕ) → p < pair_limit
    → masked (set rows (8 * k + 4 + n / 64) mask) i p ≡ (masked rows i p || (eqb i k && eqb p n))
mask-more rows k n mask long low few bits i p l =
    let at : 8 * k + 4 + n / 64 ≡ (64 * (8 * k + 4) + n) / 64 = omega arith in
    let in-word : n % 64 ≡ (64 * (8 * k + 4) + n) % 64 = omega arith in
    mask-member (set rows (8 * k + 4 + n / 64) mask) i p
    ∙ ap (λ (x : ℕ). member (set rows x mask) (64 * (8 * i + 4) + p)) at
    ∙ member-with rows (64 * (8 * k + 4) + n) mask (omega arith)
    (λ j. bits j ∙ ap₂ (λ (x y : ℕ). bit (get_or rows x 0) j || eqb j y) at in-word) (64 * (8 * i + 4) + p)
    ∙ ap₂ (λ (x y : Bool). x || y) (sym (mask-member rows i p))
    (same_truth (eqb (64 * (8 * i + 4) + p) (64 * (8 * k + 4) + n)) (eqb i k && eqb p n)
    (λ e. let z = eqb-true (64 * (8 * i + 4) + p) (64 * (8 * k + 4) + n) e in both (eq-eqb i k (omega arith)) (eq-eqb p n (omega arith)))
    (λ e.
    let (x, y) = parts (eqb i k) (eqb p n) e in
    let z = eqb-true i k x in
    let u = eqb-true p n y in
    eq-eqb (64 * (8 * i + 4) + p) (64 * (8 * k + 4) + n) (omega arith)))

module _ (D : Declarations) (q : Pair) (k n : ℕ) (number : attribute_number D q.source q.name ≡ some k) (at : n ≡ length D.pairs) where
  abbrev E : Declarations
  E = with_pair q D

  nothing_yet : (j : ℕ) → n ≤ j → nth D.pairs j ≡ none
  nothing_yet j h = no_result (nth D.pairs j) (λ x e. let l = nth-lt D.pairs j e in omega arith)

  pairs_of_lem : (i p : ℕ) → is_pair_of E i p ≡ (is_pair_of D i p || (eqb i k && eqb p n))
  unfolding is_pair_of attribute_number
  pairs_of_lem i p = go (ℕ_discrete p n)
    where
      of : Option Pair → Bool
      of o = o is λ x. attribute_number D x.source x.name is eqb i

      right : (b c : Bool) → c ≡ false → b ≡ (b || (eqb i k && c))
      right true c e = refl
      right false c e = sym (ap (λ (x : Bool). eqb i k && x) e ∙ and-false (eqb i k))
        where
          and-false : (x : Bool) → (x && false) ≡ false
          and-false true = refl
          and-false false = refl

      and-true : (x : Bool) → (x && true) ≡ x
      and-true true = refl
      and-true false = refl

      go : Dec (p ≡ n) → is_pair_of E i p ≡ (is_pair_of D i p || (eqb i k && eqb p n))
      go (yes z) =
          ap of (ap (nth E.pairs) (z ∙ at) ∙ nth-new D.pairs q)
          ∙ ap (λ (o : Option ℕ). o is eqb i) number
          ∙ sym
          (ap₂ (λ (x y : Bool). x || (eqb i k && y)) (ap of (nothing_yet p (omega arith))) (eq-eqb p n z)
          ∙ and-true (eqb i k))
      go (no z) = ap of (nth-old D.pairs q p (λ y. z (y ∙ sym at))) ∙ right (is_pair_of D i p) (eqb p n) (ne_eqb p n z)

  attributes-more : (rows : List ℕ) (mask : ℕ) → length rows ≡ (section.attributes).size → k < attribute_limit → n < pair_limit
      → Bits mask (λ j. bit (get_or rows (8 * k + 4 + n / 64) 0) j || eqb j (n % 64)) → AttributeRows rows D
      → AttributeRows (set rows (8 * k + 4 + n / 64) mask) E
  attributes-more rows mask long low few bits held = record {
    within = held.within;
    row = λ i a e.
        let r = held.row i a e in
        record {
          source = other (8 * i) (λ z. omega arith) ∙ r.source;
          type = other (8 * i + 1) (λ z. omega arith) ∙ r.type;
          low = other (8 * i + 2) (λ z. omega arith) ∙ r.low;
          high = other (8 * i + 3) (λ z. omega arith) ∙ r.high;
        };
    other = λ i h l. other (8 * i) (λ z. omega arith) ∙ held.other i h l;
    mask = λ i p h l.
        mask-more rows k n mask long low few bits i p l ∙ ap (λ (x : Bool). x || (eqb i k && eqb p n)) (held.mask i p h l) ∙ sym (pairs_of_lem i p);
  }
    where
      other : (j : ℕ) → (j ≡ 8 * k + 4 + n / 64 → ⊥) → get_or (set rows (8 * k + 4 + n / 64) mask) j 0 ≡ get_or rows j 0
      other j z = get_or-set_other rows (8 * k + 4 + n / 64) j mask 0 z

  rows_more : (s t : List ℕ) → Added s t n (row_of_words k (atom_words q.atom)) → Indexed s pair_limit (pair_row D) → Indexed t pair_limit (pair_row E)
  unfolding attribute_number
  rows_more s t adds ix =
      indexed-same (with_row (pair_row D) n w) (pair_row E) same
      (adds.index pair_limit (pair_row D) ix (λ z. omega arith) (ap (λ (o : Option Pair). o >>= row_in) (nothing_yet n (omega arith))))
    where
      w : Row
      w = row_of_words k (atom_words q.atom)

      row_in : Pair → Option Row
      row_in x = attribute_number D x.source x.name >>= λ j. some (row_of_words j (atom_words x.atom))

      same : (j : ℕ) → with_row (pair_row D) n w j ≡ pair_row E j
      same j = go (ℕ_discrete j n)
        where
          go : Dec (j ≡ n) → with_row (pair_row D) n w j ≡ pair_row E j
          go (yes z) =
              ap (with_row (pair_row D) n w) z
              ∙ rw (eq-eqb n n refl) refl
              ∙ sym
              (ap (λ (o : Option Pair). o >>= row_in) (ap (nth E.pairs) (z ∙ at) ∙ nth-new D.pairs q)
              ∙ ap (λ (o : Option ℕ). o >>= λ i. some (row_of_words i (atom_words q.atom))) number)
          go (no z) = ap (λ (b : Bool). if b then some w otherwise pair_row D j) (ne_eqb j n z) ∙ sym (ap (λ (o : Option Pair). o >>= row_in) (nth-old D.pairs q j (λ y. z (y ∙ sym at))))

  counts-more : (words : List ℕ) → 2 < length words → CountsOf words D → CountsOf (set words 2 (n + 1)) E
  unfolding holder_numbers_of groups
  counts-more words long c = record {
    attributes = word_at words 2 (n + 1) 0 long ∙ c.attributes;
    operations = word_at words 2 (n + 1) 1 long ∙ c.operations;
    pairs = word_at words 2 (n + 1) 2 long ∙ omega (arith, at, length_more D.pairs q);
    holders = word_at words 2 (n + 1) 3 long ∙ c.holders;
    groups-are = word_at words 2 (n + 1) 4 long ∙ c.groups-are;
    rules = word_at words 2 (n + 1) 5 long ∙ c.rules;
  }

-- the book with a pair more
pub pair_held : (book next : List ℕ) (code : Bytes) (D : Declarations) (T : Ties) (q : Pair) (n k : ℕ) → Holds book code (record { declared = D; ties = T }) → NamesKnown D
    → attribute_number D q.source q.name ≡ some k → n ≡ length D.pairs → n < pair_limit → k < attribute_limit → PairPut book n k (atom_words q.atom) next
    → Holds next code (record { declared = with_pair q D; ties = T })
unfolding attribute_number operation_number
pair_held book next code D T q n k held known number at few low put =
    let E = with_pair q D in
    let long = held.long in
    let mask = put.mask in
    let e = put.written in
    let beside : (s : Section) → apart s section.attributes ≡ true → apart s section.pairs ≡ true → apart s section.counts ≡ true → section_words s next ≡ section_words s book =
    λ s a b c. ap (section_words s) e ∙ put-beside book n k mask put.rows long few low (rows_long long put) s a b c in
    let word : get_or (section_words section.attributes book) (8 * k + 4 + n / 64) 0 ≡ get_or book (mask_place k n) 0 =
    section-word section.attributes book (8 * k + 4 + n / 64) (omega arith) in
    record {
      edition = held.edition;
      long = ap length e ∙ put-long book n k mask put.rows long few low (rows_long long put) ∙ held.long;
      code-long = held.code-long;
      counts =
          subst (λ (w : List ℕ). CountsOf w E) (sym (ap (section_words section.counts) e ∙ put_count book n k mask put.rows long few low (rows_long long put)))
          (counts-more D q k n number at (section_words section.counts book) (omega (arith, section-long section.counts book (omega arith))) held.counts);
      attributes =
          subst (λ (w : List ℕ). AttributeRows w E) (sym (ap (section_words section.attributes) e ∙ put-mask book n k mask put.rows long few low (rows_long long put)))
          (attributes-more D q k n number at (section_words section.attributes book) mask (section-long section.attributes book (omega arith)) low few
          (λ j. put.marked j ∙ ap (λ (x : ℕ). bit x j || eqb j (n % 64)) (sym word)) held.attributes);
      operations = subst (λ (w : List ℕ). OperationRows w E.operations) (sym (beside section.operations refl refl refl)) held.operations;
      pairs =
          subst (λ (w : List ℕ). Indexed w pair_limit (pair_row E)) (sym (ap (section_words section.pairs) e ∙ put-row book n k mask put.rows long few low (rows_long long put)))
          (rows_more D q k n number at (section_words section.pairs book) put.rows put.row held.pairs);
      holders = subst (λ (w : List ℕ). Indexed w book_holders (holder_row E)) (sym (beside section.holders refl refl refl)) held.holders;
      sorts = subst (λ (w : List ℕ). SortRows w E) (sym (beside section.sorts refl refl refl)) (sorts-kept D E refl (section_words section.sorts book) held.sorts);
      groups = rw (beside section.slots refl refl refl, beside section.slot_of refl refl refl) (groups-kept D E refl _ _ held.groups);
      ties = rw (beside section.ups refl refl refl, beside section.own refl refl refl, beside section.slots refl refl refl) held.ties;
      rules =
          subst (λ (w : List ℕ). RuleRows w code E) (sym (beside section.rules refl refl refl))
          (rules-kept D E (λ s m j e. e) (λ i a e. e) (λ o j e. e) refl known _ code held.rules);
    }
