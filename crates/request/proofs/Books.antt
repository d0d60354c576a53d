-- What a book and a table that stand for a state lend to a request. Assumes nothing.
use Prim.Native.Nat.{ℕ, ◌+◌, ◌-◌, ◌*◌, ◌≤◌, ◌<◌}
use native.Mathlib.Omega.{arith}
use mathlib.Core.Path.{◌≡◌, refl, sym, ap, ◌∙◌}
use mathlib.Core.List.{List}
use mathlib.Core.Option.{Option, none, some}
use lib.ListN.{length, get_or, take, drop}
use lib.Seq.{get_or-take, get_or-drop}
use Rattle.model.specs.Notation.{◌>>=◌, nth}
use Rattle.model.specs.Limits.{holder_numbers, pair_limit}
use Rattle.model.specs.Bytes.{Bytes}
use Rattle.model.specs.Declarations.{Declarations, Pair, attribute_number}
use Rattle.model.specs.State.{State}
use Rattle.model.specs.Block.{Block, read_block}
use Rattle.model.specs.Table.{table}
use Rattle.model.specs.Standing.{Standing, WellDeclared}
use Rattle.model.proofs.Options.{no_result}
use Rattle.model.proofs.Lists.{nth-lt}
use Rattle.model.proofs.BitsOfWords.{bit_of}
use Rattle.model.proofs.Table.{table-length}
use Rattle.model.proofs.TableLayout.{pair_in, standing-layout}
use Rattle.bits.specs.Bits.{odd, bit, holds}
use Rattle.text.specs.Values.{atom_words}
use Rattle.rows.specs.Rows.{PairRow, PairRows}
use Rattle.index.specs.Index.{chains, row_place, Row, Indexed, RowWritten}
use Rattle.session.specs.Words.{SetOf, SetsOf}
use Rattle.book.specs.Sections as section
use Rattle.book.specs.Sections.{section_words}
use Rattle.book.specs.Held.{Holds, pair_row}
use Rattle.request.specs.Requests.{pair_rows, NumbersOf, RequestOf}
use Rattle.request.proofs.Blocks.{head_of, entries-behind}

-- ---- the rows of pairs, in the section of their index

same_word : (book : List ℕ) (i : ℕ) → i < pair_rows.size → get_or (section_words pair_rows book) i 0 ≡ get_or (section_words section.pairs book) (chains + pair_limit + i) 0
same_word book i h =
    let e : pair_rows.start + i ≡ (section.pairs).start + (chains + pair_limit + i) = omega arith in
    get_or-take pair_rows.size (drop pair_rows.start book) i 0 h ∙ get_or-drop pair_rows.start book i 0 ∙ ap (λ (k : ℕ). get_or book k 0) e
    ∙ sym (get_or-take (section.pairs).size (drop (section.pairs).start book) (chains + pair_limit + i) 0 (omega arith)
    ∙ get_or-drop (section.pairs).start book (chains + pair_limit + i) 0)

module _ (book : List ℕ) (D : Declarations) (well : WellDeclared D) (ix : Indexed (section_words section.pairs book) pair_limit (pair_row D)) where
  abbrev row_of : ℕ → Pair → Row
  row_of k p = (k + 1, (atom_words p.atom).first, (atom_words p.atom).second, (atom_words p.atom).third)

  row-so : (i k : ℕ) (p : Pair) → nth D.pairs i ≡ some p → attribute_number D p.source p.name ≡ some k → pair_row D i ≡ some (row_of k p)
  row-so i k p at number =
      ap (λ (o : Option Pair). o >>= λ q. attribute_number D q.source q.name >>= λ k. some (row_of k q)) at
      ∙ ap (λ (o : Option ℕ). o >>= λ k. some (row_of k p)) number

  word-so : (i j w : ℕ) → i < pair_limit → j < 4 → get_or (section_words section.pairs book) (row_place pair_limit i + j) 0 ≡ w → get_or (section_words pair_rows book) (4 * i + j) 0 ≡ w
  word-so i j w h l e =
      let z : chains + pair_limit + (4 * i + j) ≡ row_place pair_limit i + j = omega arith in
      same_word book (4 * i + j) (omega arith) ∙ ap (λ (n : ℕ). get_or (section_words section.pairs book) n 0) z ∙ e

  first_so : (i w : ℕ) → i < pair_limit → get_or (section_words section.pairs book) (row_place pair_limit i) 0 ≡ w → get_or (section_words pair_rows book) (4 * i) 0 ≡ w
  first_so i w h e = same_word book (4 * i) (omega arith) ∙ e

  few : length D.pairs ≤ pair_limit
  few = well.pairs.few

  pub pair-rows : PairRows (section_words pair_rows book) D
  pair-rows = record {
    within = few;
    row = λ i k p at number. written i k p (omega (arith, nth-lt D.pairs i at, few)) (ix.written i (row_of k p) (row-so i k p at number));
    other = λ i l h. first_so i 0 h (ix.absent i h (ap (λ (o : Option Pair). o >>= λ q. attribute_number D q.source q.name >>= λ k. some (row_of k q)) (nobody i l)));
  }
    where
      nobody : (i : ℕ) → length D.pairs ≤ i → nth D.pairs i ≡ none
      nobody i l = no_result (nth D.pairs i) (λ a e. let h = nth-lt D.pairs i e in omega arith)

      written : (i k : ℕ) (p : Pair) → i < pair_limit → RowWritten (section_words section.pairs book) pair_limit i (row_of k p) → PairRow (section_words pair_rows book) i k p
      written i k p h w = record {
        attribute = first_so i (k + 1) h w.w0;
        first = word-so i 1 (atom_words p.atom).first h (omega arith) w.w1;
        second = word-so i 2 (atom_words p.atom).second h (omega arith) w.w2;
        third = word-so i 3 (atom_words p.atom).third h (omega arith) w.w3;
      }

-- ---- the sets of the table

module _ {S : State} (standing : Standing S) where
  abbrev words : List ℕ
  words = table S.declared S.ties

  pair-bit : (t : List ℕ) (k p : ℕ) → holds t k p ≡ pair_in t k p
  unfolding holds bit odd pair_in bit_of
  pair-bit t k p = refl

  set-of : (t : List ℕ) → t ≡ words → (k : ℕ) → k < holder_numbers S.declared.edition → SetOf S t k
  set-of t e k h = record {
    within = let l = table-length S.declared S.ties in let m = ap length e in omega arith;
    pairs = λ p l. pair-bit t k p ∙ ap (λ (u : List ℕ). pair_in u k p) e ∙ standing-layout standing k p h l;
  }

  pub sets_of : (t : List ℕ) → t ≡ words → (b : Block) → b.user < holder_numbers S.declared.edition → b.object < holder_numbers S.declared.edition → SetsOf S b t
  sets_of t e b u o = record { user-set = set-of t e b.user u; object-set = set-of t e b.object o; admin-set = set-of t e 0 (omega arith) }

-- ---- what is lent

module _ {S : State} {book : List ℕ} {code : Bytes} (standing : Standing S) (holds : Holds book code S)
    (block : Bytes) (b : Block) (read : read_block block ≡ some b) (bytes : (i : ℕ) → get_or block i 0 < 256) where
  pub numbers_of : NumbersOf S.declared b (section_words section.counts book) (section_words section.sorts book) (section_words section.attributes book) block (take (length block - 10) (drop 10 block))
  numbers_of = record {
    read = read;
    counts-are = holds.counts;
    sort-rows = holds.sorts;
    attribute-rows = holds.attributes;
    entries-of = entries-behind block b read bytes;
  }

  pub request-of : (t : List ℕ) → t ≡ table S.declared S.ties
      → RequestOf S b (section_words section.counts book) (section_words section.rules book) code (section_words section.attributes book) (section_words pair_rows book) t block (take (length block - 10) (drop 10 block))
  request-of t e =
      let head = head_of block b read in
      let well = standing.declarations in
      record {
        read = read;
        counts-are = holds.counts;
        declarations = well;
        attribute-rows = holds.attributes;
        pair-rows = pair-rows book S.declared well holds.pairs;
        rule-rows = holds.rules;
        sets = sets_of standing t e b (omega (arith, head.user, bytes 1, ap holder_numbers holds.edition)) (omega (arith, head.object, bytes 2, ap holder_numbers holds.edition));
        entries-of = entries-behind block b read bytes;
      }
