-- A row that was written says what the term was.
use Prim.Native.Nat.{ℕ, ◌+◌, ◌≤◌, ◌<◌}
use mathlib.Core.Path.{◌≡◌, refl, sym, ap, ◌∙◌}
use mathlib.Core.List.{◌++◌}
use native.Mathlib.Omega.{arith}
use lib.ListN.{length, get_or, take, drop, length-append}
use lib.Seq.{sets, sets-eq, take_at, take-take, get_or-take, get_or-append-add, length-take-le}
use Rattle.model.specs.Bytes.{Bytes}
use Rattle.truth.specs.Verdicts.{Verdict}
use Rattle.values.specs.Operands.{Lent, operand}
use Rattle.program.specs.TermRows.{row_bytes, two, operand_at, row_kind, row_left, row_right, row_next, TermValue, RowValue}
use Rattle.compile.specs.declared.Term.{Term}
use Rattle.compile.specs.Compiled.{Near, low, high, row_of}

-- rows whose front is that of other rows with a term's row behind it
module _ (rows : Bytes) (row : ℕ) (t : Term) (fits : row + row_bytes ≤ length rows) where
  pub row-front : take (row + row_bytes) (sets rows row (row_of t)) ≡ take row rows ++ row_of t
  row-front =
      ap (take (row + row_bytes)) (sets-eq (row_of t) rows row fits)
      ∙ take_at (take row rows ++ row_of t) (drop (row + row_bytes) rows) (row + row_bytes)
      (omega (arith, length-append (take row rows) (row_of t), length-take-le row rows (omega arith)))

  module _ (other : Bytes) (e : take (row + row_bytes) other ≡ take row rows ++ row_of t) where
    pub row_before : take row other ≡ take row rows
    row_before =
        sym (take-take row (row + row_bytes) other (omega arith)) ∙ ap (take row) e ∙ take_at (take row rows) (row_of t) row (length-take-le row rows (omega arith))

    byte : (i k : ℕ) → i ≡ row + k → k < row_bytes → get_or other i 0 ≡ get_or (row_of t) k 0
    byte i k f h =
        ap (λ (j : ℕ). get_or other j 0) f ∙ sym (get_or-take (row + row_bytes) other (row + k) 0 (omega arith)) ∙ ap (λ (l : Bytes). get_or l (row + k) 0) e
        ∙ ap (λ (j : ℕ). get_or (take row rows ++ row_of t) (j + k) 0) (sym (length-take-le row rows (omega arith))) ∙ get_or-append-add (take row rows) (row_of t) k 0

    number : (i k n : ℕ) → i ≡ row + k → k + 1 < row_bytes → get_or (row_of t) k 0 ≡ low n → get_or (row_of t) (k + 1) 0 ≡ high n → n < 65536 → two other i ≡ n
    number i k n f h a b few = omega (arith, byte i k f (omega arith) ∙ a, byte (i + 1) (k + 1) (omega arith) h ∙ b)

    pub row-kind : row_kind other row ≡ t.kind
    row-kind = byte row 0 (omega arith) (omega arith)

    pub row_next_lem : t.next < 65536 → row_next other row ≡ t.next
    row_next_lem few = number (row + 13) 13 t.next refl (omega arith) refl refl few

    pub row-left : Near t.left → row_left other row ≡ t.left
    unfolding operand_at
    row-left (few, short) =
        let a = byte (row + 1) 1 refl (omega arith) in
        let b = byte (row + 1 + 1) 2 (omega arith) (omega arith) in
        let c = number (row + 1 + 2) 3 t.left.start (omega arith) (omega arith) refl refl few in
        let d = number (row + 1 + 4) 5 t.left.end (omega arith) (omega arith) refl refl short in
        λ i. operand (a i) (b i) (c i) (d i)

    pub row-right : Near t.right → row_right other row ≡ t.right
    unfolding operand_at
    row-right (few, short) =
        let a = byte (row + 7) 7 refl (omega arith) in
        let b = byte (row + 7 + 1) 8 (omega arith) (omega arith) in
        let c = number (row + 7 + 2) 9 t.right.start (omega arith) (omega arith) refl refl few in
        let d = number (row + 7 + 4) 11 t.right.end (omega arith) (omega arith) refl refl short in
        λ i. operand (a i) (b i) (c i) (d i)

    pub row-value : (L : Lent) → Near t.left → Near t.right → (u : Verdict) → TermValue L t.kind t.left t.right u → RowValue L other row u
    row-value L n m u v = rw (row-kind, row-left n, row-right m) v
