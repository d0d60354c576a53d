-- A load: a file read as its lines one after another.
use Rattle.std.specs.Prelude.{ℕ, suc, List, [], ◌∷◌, eqb}
use Rattle.std.proofs.Math.Option.{Option, none, some}
use Rattle.model.specs.Notation.{if◌then◌otherwise◌, ◌>>=◌}
use Rattle.model.specs.Limits.{Edition}
use Rattle.model.specs.Numbers as refusal
use Rattle.model.specs.Bytes.{Bytes, lines_of}
use Rattle.model.specs.Keys.{Key}
use Rattle.model.specs.Lines.{named_edition, Line, framed, read_line}
use Rattle.model.specs.State.{State, empty, after}
use Rattle.model.specs.Refusals.{too_long, wrong_first_line, line_refusal}

-- the number of the answer, its line, and the state it leaves
pub record Loaded : Type 0 where
  pub number : ℕ
  pub line : ℕ
  pub state : State

-- "with line number from 1 … Book empty, table all 0": the table of the empty state. Document 02, E5: "A refused load leaves an empty book of the
-- edition that its first line names, else edition 1"
abbrev pub refused_at : Edition → ℕ → ℕ → Loaded
refused_at e number line = record { number = number; line = line; state = empty e }

-- the key of a line
abbrev pub key_of : Bytes → Option Key
key_of line = framed line >>= λ (key, fields). some key

-- the state behind an accepted line, which reads as one: the clause for none is never met
abbrev pub stepped : State → Option Line → State
stepped S none = S
stepped S (some l) = after l S

-- "A file is read as its lines one after another"; "the first offending line of a file decides". n lines were read, the last of them with the key `previous`; the first line has none of the keys
unfoldable pub read_on : Edition → State → Option Key → ℕ → List Bytes → Loaded
read_on e S previous n [] = record { number = 0; line = n; state = S }
read_on e S previous n (l ∷ ls) =
    let r = line_refusal S previous l in
    if eqb r 0 then read_on e (stepped S (read_line l)) (key_of l) (suc n) ls otherwise refused_at e r (suc n)

-- the lines behind the first
abbrev pub other_lines : List Bytes → List Bytes
other_lines [] = []
other_lines (l ∷ ls) = ls

-- "2 has line 0", "3: first line …, wrong or missing (line 1)"
unfoldable pub load : Bytes → Loaded
load file =
    let e = named_edition file in
    if too_long file then refused_at e refusal.too_long 0
    otherwise (if wrong_first_line file then refused_at e refusal.wrong_first_line 1
    otherwise read_on e (empty e) none 1 (other_lines (lines_of file)))
