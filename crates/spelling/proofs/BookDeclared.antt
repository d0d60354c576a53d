-- The lines of attributes, operations and pairs, from the words of a book that holds a state. Assumes nothing.
use Prim.Native.Nat.{ℕ, ◌+◌, ◌%◌, ◌≤◌, ◌<◌, min}
use mathlib.Core.Path.{◌≡◌, refl, sym, ap, ap₂, ◌∙◌}
use mathlib.Core.Bool.{true}
use mathlib.Core.List.{List, ◌++◌, append_assoc}
use mathlib.Core.Option.{Option, some, some-injective}
use native.Mathlib.Omega.{arith}
use borrow.Author.Tests.{leb-true}
use lib.ListN.{get_or}
use Rattle.model.specs.Notation.{nth, map, each}
use Rattle.model.specs.Limits.{attribute_limit, operation_limit, pair_limit, largest_int}
use Rattle.model.specs.Bytes.{Bytes, bytes, same}
use Rattle.model.specs.Names.{is_name}
use Rattle.model.specs.Attributes.{Source, source_word, same_source}
use Rattle.model.specs.Attributes as attributes
use Rattle.model.specs.Atoms.{Atom, int, str, bool, type_of, is_atom, decimal, quoted, write_atom}
use Rattle.model.specs.Declarations.{Declarations, Attribute, Pair, attribute_number, attribute_of, same_source_and_name}
use Rattle.model.specs.Lines.{op}
use Rattle.model.specs.State.{State}
use Rattle.model.specs.Standing.{Standing}
use Rattle.model.specs.FileText.{attribute_line, pair_line, line_text}
use Rattle.model.proofs.Options.{parts, bind-some}
use Rattle.model.proofs.Lists.{nth-lt, place-nth}
use Rattle.model.proofs.WordTables.{same-eq, same_word, reads-source}
use Rattle.codes.specs.Codes.{source_code, type_code}
use Rattle.text.specs.Packing.{packed_of}
use Rattle.text.specs.Values.{atom_words}
use Rattle.output.specs.Laid.{word_text}
use Rattle.book.specs.Sections as section
use Rattle.book.specs.Held.{Holds, pair_row}
use Rattle.spelling.specs.LineTexts.{source_words, type_words, bool_words, listed_text, attribute_at, operation_at, pair_at, name_text, string_text, atom_text, attribute_text, row_of_pair, pair_atom_text, line_end, attribute_line_text, operation_line_text, pair_line_text, declared_text}
use Rattle.spelling.proofs.LaidTexts.{int-atom, str-atom, bool-atom}
use Rattle.spelling.proofs.Spellings.{source-text, type-text, bool-text}
use Rattle.spelling.proofs.Unpacked.{name_back, string-back}
use Rattle.spelling.proofs.Listing.{each-listed}
use Rattle.spelling.proofs.SectionWords.{word_at}

-- how many there are, by the word of the counts
pub count-is : {w n limit : ℕ} → w ≡ n → n ≤ limit → min w limit ≡ n
count-is e l = omega arith

-- a name, from the two words that it was packed in
pub packed-name : (book : List ℕ) (at : ℕ) (n : Bytes) → get_or book at 0 ≡ (packed_of n).low → get_or book (at + 1) 0 ≡ (packed_of n).high → is_name n ≡ true → name_text book at ≡ n
unfolding name_text
packed-name book at n low high h = ap₂ (λ (x y : ℕ). word_text 8 x ++ word_text 8 y) low high ∙ name_back n h

-- an atom, from its three words and its type
packed-atom : (book : List ℕ) (type at : ℕ) (a : Atom) → type ≡ type_code (type_of a) → get_or book at 0 ≡ (atom_words a).first → get_or book (at + 1) 0 ≡ (atom_words a).second
    → get_or book (at + 2) 0 ≡ (atom_words a).third → is_atom a ≡ true → atom_text book type at ≡ write_atom a
unfolding string_text name_text
packed-atom book type at (int n) t x y z h =
    let l = leb-true n largest_int h in
    let e : get_or book at 0 % 4294967296 ≡ n = omega arith in
    sym (int-atom book type at t) ∙ ap decimal e
packed-atom book type at (str s) t x y z h =
    sym (str-atom book type at t)
    ∙ ap quoted (ap₂ (λ (u v : Bytes). u ++ v) (ap₂ (λ (a b : ℕ). word_text 8 a ++ word_text 8 b) x y) (ap (word_text 8) z) ∙ string-back s h)
packed-atom book type at (bool b) t x y z h = sym (bool-atom book type at (λ e. omega arith) (λ e. omega arith)) ∙ ap (listed_text bool_words) x ∙ bool-text b

module _ {book : List ℕ} {rules : Bytes} {S : State} (standing : Standing S) (held : Holds book rules S) where
  abbrev D : Declarations
  D = S.declared

  -- ---- attributes

  -- the words of attribute k, in its row
  pub record RowWords (k : ℕ) (a : Attribute) : Type 0 where
    pub few : k < attribute_limit
    pub source : get_or book (attribute_at k) 0 ≡ source_code a.source
    pub type : get_or book (attribute_at k + 1) 0 ≡ type_code a.type
    pub name : name_text book (attribute_at k + 2) ≡ a.name

  pub row_words : (k : ℕ) (a : Attribute) → nth D.attributes k ≡ some a → RowWords k a
  row_words k a e =
      let l = nth-lt D.attributes k e in
      let few : k < attribute_limit = omega (arith, held.attributes.within) in
      let row = held.attributes.row k a e in
      record {
        few = few;
        source = word_at section.attributes book row.source (omega arith) (omega arith);
        type = word_at section.attributes book row.type (omega arith) (omega arith);
        name =
            packed-name book (attribute_at k + 2) a.name
            (word_at section.attributes book row.low (omega arith) (omega arith))
            (word_at section.attributes book row.high (omega arith) (omega arith))
            (standing.declarations.attributes.named k a e);
      }

  attribute-line : (k : ℕ) (a : Attribute) → nth D.attributes k ≡ some a → attribute_line_text book k ≡ line_text (attribute_line a)
  unfolding attribute_line_text listed_text word_text
  attribute-line k a e =
      let w = row_words k a e in
      ap₂ (λ (s t : Bytes). bytes "attr=" ++ (s ++ (bytes "," ++ t)))
      (ap (listed_text source_words) w.source ∙ source-text a.source)
      (ap₂ (λ (n t : Bytes). n ++ (bytes "," ++ (t ++ line_end))) w.name (ap (listed_text type_words) w.type ∙ type-text a.type))
      ∙ simp append_assoc

  -- ---- operations

  pub operation-name : (k : ℕ) (n : Bytes) → nth D.operations k ≡ some n → name_text book (operation_at k) ≡ n
  operation-name k n e =
      let l = nth-lt D.operations k e in
      let few : k < operation_limit = omega (arith, standing.declarations.operations.few) in
      packed-name book (operation_at k) n
      (word_at section.operations book (held.operations.low k n e) (omega arith) refl)
      (word_at section.operations book (held.operations.high k n e) (omega arith) (omega arith))
      (standing.declarations.operations.named k n e)

  operation-line : (k : ℕ) (n : Bytes) → nth D.operations k ≡ some n → operation_line_text book k ≡ line_text (op n)
  unfolding operation_line_text listed_text word_text
  operation-line k n e = ap (λ (s : Bytes). bytes "op=" ++ (s ++ line_end)) (operation-name k n e)

  -- ---- pairs

  -- pair p: its attribute, and its words
  pub record PairWords (p : ℕ) (q : Pair) : Type 0 where
    pub attribute : Attribute
    pub number : ℕ
    pub attribute-is : nth D.attributes number ≡ some attribute
    pub source_is : attribute.source ≡ q.source
    pub name-is : attribute.name ≡ q.name
    pub row_is : row_of_pair book p ≡ attribute_at number
    pub atom-is : pair_atom_text book p ≡ write_atom q.atom

  pub pair-words : (p : ℕ) (q : Pair) → nth D.pairs p ≡ some q → PairWords p q
  unfolding attribute_of attribute_number
  pair-words p q e =
      let l = nth-lt D.pairs p e in
      let few : p < pair_limit = omega (arith, standing.declarations.pairs.few) in
      let st = standing.declarations.pairs.each p q e in
      let (k, n, f) = bind-some (attribute_number D q.source q.name) (nth D.attributes) st.declared in
      let (a, g, same-a) = place-nth (λ a. same_source_and_name a.source a.name q.source q.name) D.attributes k n in
      let (x, y) = parts (same_source a.source q.source) (same a.name q.name) same-a in
      let w = row_words k a g in
      let type : a.type ≡ type_of q.atom = ap (λ (b : Attribute). b.type) (one (sym g ∙ f)) ∙ st.typed in
      let row_at : pair_row D p ≡ some (k + 1, (atom_words q.atom).first, (atom_words q.atom).second, (atom_words q.atom).third) =
      row p q k e n in
      let r = held.pairs.written p _ row_at in
      let head : get_or book (pair_at p) 0 ≡ k + 1 = word_at section.pairs book r.w0 (omega arith) (omega arith) in
      let row_is : row_of_pair book p ≡ attribute_at k = omega (arith, head, w.few) in
      record {
        attribute = a;
        number = k;
        attribute-is = g;
        source_is = same_word source_word attributes.sources reads-source a.source q.source x;
        name-is = same-eq a.name q.name y;
        row_is = row_is;
        atom-is =
            packed-atom book (get_or book (row_of_pair book p + 1) 0) (pair_at p + 1) q.atom
            (ap (λ (j : ℕ). get_or book (j + 1) 0) row_is ∙ w.type ∙ ap type_code type)
            (word_at section.pairs book r.w1 (omega arith) (omega arith))
            (word_at section.pairs book r.w2 (omega arith) (omega arith))
            (word_at section.pairs book r.w3 (omega arith) (omega arith))
            st.written;
      }
    where
      one : {a b : Attribute} → ◌≡◌ {A = Option Attribute} (some a) (some b) → a ≡ b
      one e = some-injective _ _ e

      row : (p : ℕ) (q : Pair) (k : ℕ) → nth D.pairs p ≡ some q → attribute_number D q.source q.name ≡ some k
          → pair_row D p ≡ some (k + 1, (atom_words q.atom).first, (atom_words q.atom).second, (atom_words q.atom).third)
      row p q k e n = rw (e, n) refl

  pub pair-name : (p : ℕ) (q : Pair) → nth D.pairs p ≡ some q → name_text book (row_of_pair book p + 2) ≡ q.name
  pair-name p q e =
      let w = pair-words p q e in
      ap (λ (j : ℕ). name_text book (j + 2)) w.row_is ∙ (row_words w.number w.attribute w.attribute-is).name ∙ w.name-is

  pub pair-atom : (p : ℕ) (q : Pair) → nth D.pairs p ≡ some q → pair_atom_text book p ≡ write_atom q.atom
  pair-atom p q e = (pair-words p q e).atom-is

  -- SRC.NAME of a declared attribute
  pub attribute-text : (k : ℕ) (a : Attribute) → nth D.attributes k ≡ some a → attribute_text book (attribute_at k) ≡ source_word a.source ++ bytes "." ++ a.name
  unfolding attribute_text
  attribute-text k a e =
      let w = row_words k a e in
      ap₂ (λ (s n : Bytes). s ++ (bytes "." ++ n)) (ap (listed_text source_words) w.source ∙ source-text a.source) w.name
      ∙ sym (append_assoc (source_word a.source) (bytes ".") a.name)

  pair_line_lem : (p : ℕ) (q : Pair) → nth D.pairs p ≡ some q → pair_line_text book p ≡ line_text (pair_line q)
  unfolding pair_line_text listed_text word_text
  pair_line_lem p q e =
      let w = pair-words p q e in
      ap₂ (λ (n a : Bytes). bytes "atom=" ++ (n ++ (bytes "," ++ (a ++ line_end))))
      (ap (attribute_text book) w.row_is ∙ attribute-text w.number w.attribute w.attribute-is ∙ ap₂ (λ (s : Source) (n : Bytes). source_word s ++ bytes "." ++ n) w.source_is w.name-is)
      w.atom-is
      ∙ simp append_assoc

  -- ---- all of these

  pub declared-text : declared_text book ≡ each line_text (map attribute_line D.attributes) ++ (each line_text (map op D.operations) ++ each line_text (map pair_line D.pairs))
  declared-text =
      ap₂ (λ (x y : Bytes). x ++ y)
      (each-listed line_text attribute_line (attribute_line_text book) D.attributes
      (count-is (word_at section.counts book held.counts.attributes (omega arith) refl) held.attributes.within) attribute-line)
      (ap₂ (λ (x y : Bytes). x ++ y)
      (each-listed line_text op (operation_line_text book) D.operations
      (count-is (word_at section.counts book held.counts.operations (omega arith) refl) standing.declarations.operations.few) operation-line)
      (each-listed line_text pair_line (pair_line_text book) D.pairs
      (count-is (word_at section.counts book held.counts.pairs (omega arith) refl) standing.declarations.pairs.few) pair_line_lem))
