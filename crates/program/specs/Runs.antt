-- A rule's program: its code and the rows of its terms. What a run over it comes to.
use Rattle.std.specs.Prelude.{ℕ, ◌+◌, ◌≤◌, ◌<◌, max, ◌≡◌, true, false, List, [], length, get_or}
use Rattle.std.proofs.Math.Option.{some}
use Rattle.model.specs.Limits.{depth_limit}
use Rattle.model.specs.Bytes.{Bytes}
use Rattle.model.specs.Attributes.{Source}
use Rattle.model.specs.Declarations.{Declarations, Attribute, attribute_number}
use Rattle.model.specs.Tokens.{Token}
use Rattle.model.specs.Meaning.{Values}
use Rattle.model.specs.Notation.{if◌then◌otherwise◌, nth}
use Rattle.codes.specs.Codes.{end_code}
use Rattle.rows.specs.Rows.{AttributeRow}
use Rattle.values.specs.Operands.{Lent, lent, Stands, attribute_operand}
use Rattle.truth.specs.declared.verdict.Verdict as truth
use Rattle.truth.specs.Verdicts.{Verdict, verdict_of, rule_verdict}
use Rattle.program.specs.declared.Walk as code
use Rattle.program.specs.Walks.{Walk, walk, fresh, comes_to, termed, passed, is_passed, WalkIs}
use Rattle.program.specs.TermRows.{row_bytes, row_next, RowValue}

-- from w on, with the code from byte `at` and the rows from byte `row` on, a run comes to t
pub data Runs (L : Lent) (rows : Bytes) : Walk → ℕ → ℕ → Verdict → Type 0 where
  done : {w : Walk} {row at : ℕ} → at < length L.code → get_or L.code at 0 ≡ end_code → Runs L rows w row at (comes_to w.inner)
  past : {w : Walk} {row at : ℕ} {t : Verdict} → at < length L.code → is_passed (get_or L.code at 0) ≡ true
      → length (passed (get_or L.code at 0) w).outer ≤ depth_limit → Runs L rows (passed (get_or L.code at 0) w) row (at + 1) t → Runs L rows w row at t
  term : {w : Walk} {row at : ℕ} {u t : Verdict} → at < length L.code → (get_or L.code at 0 ≡ end_code → ⊥) → is_passed (get_or L.code at 0) ≡ false
      → row + row_bytes ≤ length rows → RowValue L rows row u → at < row_next rows row
      → Runs L rows (termed u w) (row + row_bytes) (row_next rows row) t → Runs L rows w row at t

-- the operand of each declared attribute stands for the values that `read` gives it
abbrev pub Reads : Lent → List ℕ → Declarations → Values → Type 0
Reads L attributes D read =
    (s : Source) (n : Bytes) (k : ℕ) → attribute_number D s n ≡ some k → Stands L (attribute_operand attributes k) (read s n)

-- code and rows are a program of the tokens ts: whatever is lent with them and whatever values are read, a run comes to the verdict on ts
abbrev pub ProgrammedBy : List ℕ → Declarations → Bytes → Bytes → List Token → Type 0
ProgrammedBy attributes D code rows ts =
    (pairs session : List ℕ) (entries : Bytes) (read : Values) → Reads (lent code pairs session entries) attributes D read
    → Runs (lent code pairs session entries) rows (walk fresh []) 0 0 (rule_verdict read ts)

-- these rows are those of the attributes of D, among others
abbrev pub HasRows : List ℕ → Declarations → Type 0
HasRows attributes D = (i : ℕ) (a : Attribute) → nth D.attributes i ≡ some a → AttributeRow attributes i a

-- by any rows of the attributes of D
abbrev pub Programmed : Declarations → Bytes → Bytes → List Token → Type 0
Programmed D code rows ts = (attributes : List ℕ) → HasRows attributes D → ProgrammedBy attributes D code rows ts

-- r is where the code goes on behind a token, by its kind: ahead, whatever a row says
pub record NextAt (rows : Bytes) (kind row at r : ℕ) : Type 0 where
  pub mark : is_passed kind ≡ true → r ≡ at + 1
  pub behind_row : is_passed kind ≡ false → row + row_bytes ≤ length rows → r ≡ max (at + 1) (row_next rows row)
  pub ahead : at < r

-- where the rows go on
abbrev pub next_row : ℕ → ℕ → ℕ
next_row kind row = if is_passed kind then row otherwise row + row_bytes

-- from c to r: a mark passed, or the term of a row, by the kind
pub record Stepped (L : Lent) (rows : Bytes) (kind row : ℕ) (c r : code.Walk) : Type 0 where
  pub mark : is_passed kind ≡ true → (w : Walk) → WalkIs c w → length (passed kind w).outer ≤ depth_limit → WalkIs r (passed kind w)
  pub row-value : is_passed kind ≡ false → row + row_bytes ≤ length rows → (u : Verdict) → RowValue L rows row u → (w : Walk) → WalkIs c w → WalkIs r (termed u w)

-- r is what a run over code and rows comes to
abbrev pub Ran : Lent → Bytes → truth.Verdict → Type 0
Ran L rows r = (t : Verdict) → Runs L rows (walk fresh []) 0 0 t → verdict_of r ≡ t
