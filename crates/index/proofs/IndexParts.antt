-- A section in which nothing stands, and the part of a section that has its rows. Assumes nothing.
use Prim.Native.Nat.{ℕ, ◌+◌, ◌*◌, ◌<◌}
use mathlib.Core.Path.{◌≡◌, refl, ap, ◌∙◌}
use mathlib.Core.List.{List}
use mathlib.Core.Option.{none, some}
use native.Mathlib.Decide.{dec_lt}
use native.Mathlib.Omega.{arith}
use lib.ListN.{length, get_or, take, drop, get_or-eq_default}
use lib.Seq.{get_or-take, get_or-drop}
use Rattle.model.proofs.WordTables.{none-is-some}
use Rattle.index.specs.Index.{chains, row_place, Row, Rows, Indexed}
use Rattle.index.proofs.ChainWalks.{there-below}

-- a section whose words are all 0 is the index of no rows
module _ (s : List ℕ) (n : ℕ) (size : length s ≡ chains + 5 * n) (zeros : (i : ℕ) → i < length s → get_or s i 0 ≡ 0) where
  word-0 : (i : ℕ) → Dec (i < length s) → get_or s i 0 ≡ 0
  word-0 i (yes h) = zeros i h
  word-0 i (no h) = get_or-eq_default s 0 {n = i} (omega arith)

  pub empty-indexed : Indexed s n (λ _. none)
  empty-indexed = record {
    size = size;
    few = λ k h. refl;
    written = λ k w e. none-is-some e;
    absent = λ k h e. word-0 (row_place n k) (dec_lt (row_place n k) (length s));
    firsts = λ h l. record {
      within = omega (arith, word-0 h (dec_lt h (length s)));
      inside = λ k e. absurd (omega (arith, word-0 h (dec_lt h (length s)), e));
      above = λ k l m c. none-is-some c.1;
    };
    nexts = λ k w e. none-is-some e;
  }

-- the rows alone, four words for each: what is lent to those who read rows by their numbers
abbrev pub rows_part : ℕ → List ℕ → List ℕ
rows_part n s = take (4 * n) (drop (chains + n) s)

pub part-word : (s : List ℕ) (n i : ℕ) → i < 4 * n → get_or (rows_part n s) i 0 ≡ get_or s (chains + n + i) 0
part-word s n i h = get_or-take (4 * n) (drop (chains + n) s) i 0 h ∙ get_or-drop (chains + n) s i 0

module _ (s : List ℕ) (n : ℕ) (rows : Rows) (ix : Indexed s n rows) (k : ℕ) where
  word_of : (t : ℕ) → t < 4 → k < n → get_or (rows_part n s) (4 * k + t) 0 ≡ get_or s (row_place n k + t) 0
  word_of t l h =
      let e : chains + n + (4 * k + t) ≡ row_place n k + t = omega arith in
      part-word s n (4 * k + t) (omega arith) ∙ ap (λ (i : ℕ). get_or s i 0) e

  -- the words of a row that is there, and the first word where none is
  pub part-row : (w : Row) → rows k ≡ some w
      → (get_or (rows_part n s) (4 * k) 0 ≡ w.0) × (get_or (rows_part n s) (4 * k + 1) 0 ≡ w.1) × (get_or (rows_part n s) (4 * k + 2) 0 ≡ w.2)
      × (get_or (rows_part n s) (4 * k + 3) 0 ≡ w.3)
  part-row w e =
      let row = ix.written k w e in
      let h = there-below ix k w e in (
        part-word s n (4 * k) (omega arith) ∙ row.w0,
        word_of 1 (omega arith) h ∙ row.w1,
        word_of 2 (omega arith) h ∙ row.w2,
        word_of 3 (omega arith) h ∙ row.w3,
      )

  pub part-absent : k < n → rows k ≡ none → get_or (rows_part n s) (4 * k) 0 ≡ 0
  part-absent h e = part-word s n (4 * k) (omega arith) ∙ ix.absent k h e
