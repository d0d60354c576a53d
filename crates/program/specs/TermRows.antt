-- The row of a term without parentheses: its operator and operands as they were looked up, and where the code goes on behind it.
use Rattle.std.specs.Prelude.{ℕ, ◌+◌, ◌*◌, ◌≡◌, Bool, false, ◌||◌, List, get_or}
use Rattle.model.specs.Bytes.{Bytes}
use Rattle.model.specs.Atoms.{Atom}
use Rattle.model.specs.Truth as model
use Rattle.model.specs.Tokens.{Operator}
use Rattle.model.specs.Comparison.{compare_sets, lone_value}
use Rattle.model.specs.Causes.{lacks}
use Rattle.truth.specs.declared.Truth.{Truth}
use Rattle.truth.specs.declared.verdict.Verdict as code
use Rattle.truth.specs.Truths.{truth_of}
use Rattle.truth.specs.Verdicts.{Verdict, verdict, verdict_of}
use Rattle.codes.specs.Codes.{truth_code, operator_code, name_code}
use Rattle.values.specs.declared.Operand.{Operand}
use Rattle.values.specs.Operands.{Lent, lent, operand, Stands}
use Rattle.program.specs.declared.lent.Lent as given

-- what is lent to everything that reads values, as the code passes it on with the rows
abbrev pub lent_by : given.Lent → Lent
lent_by l = lent l.code.now l.pairs.now l.session.now l.entries.now

-- how many bytes a row has, and how many rows a rule has: one for each term
abbrev pub row_bytes : ℕ
row_bytes = 16

-- two bytes, low byte first
abbrev pub two : Bytes → ℕ → ℕ
two s at = get_or s at 0 + 256 * get_or s (at + 1) 0

-- an operand in six bytes: type, place, start and end
unfoldable pub operand_at : Bytes → ℕ → Operand
operand_at s at = operand (get_or s at 0) (get_or s (at + 1) 0) (two s (at + 2)) (two s (at + 4))

-- the operator of a comparison, the word of a truth value, or the kind of a name that stands alone
abbrev pub row_kind : Bytes → ℕ → ℕ
row_kind rows row = get_or rows row 0

abbrev pub row_left : Bytes → ℕ → Operand
row_left rows row = operand_at rows (row + 1)

abbrev pub row_right : Bytes → ℕ → Operand
row_right rows row = operand_at rows (row + 7)

-- where the code goes on
abbrev pub row_next : Bytes → ℕ → ℕ
row_next rows row = two rows (row + 13)

-- the verdict on a term, by the atoms that its operands stand for
pub data TermValue (L : Lent) (kind : ℕ) (left right : Operand) : Verdict → Type 0 where
  constant : {t : model.Truth} → kind ≡ truth_code t → TermValue L kind left right (verdict t false)
  lone : {l : List Atom} → kind ≡ name_code → Stands L left l → TermValue L kind left right (verdict (lone_value l) (lacks l))
  compare : (o : Operator) {l m : List Atom} → kind ≡ operator_code o → Stands L left l → Stands L right m
      → TermValue L kind left right (verdict (compare_sets o l m) (lacks l || lacks m))

-- that of the row that begins at a byte
abbrev pub RowValue : Lent → Bytes → ℕ → Verdict → Type 0
RowValue L rows row = TermValue L (row_kind rows row) (row_left rows row) (row_right rows row)

-- r is its value
abbrev pub RowTruth : Lent → Bytes → ℕ → Truth → Type 0
RowTruth L rows row r = (v : Verdict) → RowValue L rows row v → truth_of r ≡ v.value

-- r tells whether values are lacking, whatever pairs there are
abbrev pub RowLacks : Bytes → List ℕ → Bytes → Bytes → ℕ → Bool → Type 0
RowLacks c session entries rows row r = (pairs : List ℕ) (v : Verdict) → RowValue (lent c pairs session entries) rows row v → r ≡ v.absent

-- r is the verdict on that row
abbrev pub RowTold : Lent → Bytes → ℕ → code.Verdict → Type 0
RowTold L rows row r = (v : Verdict) → RowValue L rows row v → verdict_of r ≡ v
