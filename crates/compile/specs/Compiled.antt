-- The rows of a rule's terms, made of its code.
use Rattle.std.specs.Prelude.{ℕ, ◌+◌, ◌*◌, ◌/◌, ◌%◌, ◌≤◌, ◌<◌, max, ◌≡◌, ◌⊎◌, true, false, List, [], ◌∷◌, length}
use Rattle.std.proofs.Math.Option.{some}
use Rattle.std.proofs.lemmas.List.Edits.{sets}
use Rattle.model.specs.Notation.{any_of, all_of}
use Rattle.model.specs.Limits.{term_limit}
use Rattle.model.specs.Bytes.{Bytes}
use Rattle.model.specs.Declarations.{Declarations}
use Rattle.model.specs.Tokens.{Token, Mark, is_token}
use Rattle.model.specs.Grammar.{Policy, read_policy, too_large}
use Rattle.model.specs.Meaning.{Values}
use Rattle.model.specs.Refusals.{unknown_name}
use Rattle.tokens.specs.RuleCode.{Coded}
use Rattle.truth.specs.Verdicts.{policy_verdict}
use Rattle.values.specs.declared.Operand.{Operand}
use Rattle.values.specs.Operands.{lent}
use Rattle.program.specs.Walks.{is_passed, read_leaf}
use Rattle.program.specs.TermRows.{row_bytes, TermValue}
use Rattle.program.specs.Runs.{Reads, ProgrammedBy}
use Rattle.policy.specs.Readers.{Asked, From}
use Rattle.compile.specs.declared.Term.{Term}

-- the numbers of an operand have two bytes
abbrev pub Near : Operand → Type 0
Near o = (o.start < 65536) × (o.end < 65536)

-- r is the term that was read as x.0, and behind it stand the tokens x.1: whatever is lent and read, its verdict is that on the policy
pub record IsTerm (code : Bytes) (attributes : List ℕ) (A : Asked) (at : ℕ) (r : Term) (x : Policy × List Token) : Type 0 where
  pub behind : From code A r.next x.1
  pub ahead : at < r.next
  pub left_near : Near r.left
  pub right_near : Near r.right
  pub value : (pairs session : List ℕ) (entries : Bytes) (read : Values) → Reads (lent code pairs session entries) attributes A.declared read
      → TermValue (lent code pairs session entries) r.kind r.left r.right (policy_verdict read x.0)

-- where a term begins, r is that term
abbrev pub TermRead : Bytes → List ℕ → ℕ → Term → Type 0
TermRead code attributes at r =
    (A : Asked) (us : List Token) (x : Policy × List Token) → A.valued ≡ true → From code A at us → read_leaf us ≡ some x → IsTerm code attributes A at r x

-- the same where an AND behind the term is passed with it, since AND changes nothing
pub record IsRow (code : Bytes) (attributes : List ℕ) (A : Asked) (at : ℕ) (r : Term) (x : Policy × List Token) : Type 0 where
  pub left_over : List Token
  pub behind : From code A r.next left_over
  pub are : (x.1 ≡ left_over) ⊎ (x.1 ≡ Token.mark Mark.AND ∷ left_over)
  pub ahead : at < r.next
  pub left_near : Near r.left
  pub right_near : Near r.right
  pub value : (pairs session : List ℕ) (entries : Bytes) (read : Values) → Reads (lent code pairs session entries) attributes A.declared read
      → TermValue (lent code pairs session entries) r.kind r.left r.right (policy_verdict read x.0)

abbrev pub RowRead : Bytes → List ℕ → ℕ → Term → Type 0
RowRead code attributes at r =
    (A : Asked) (us : List Token) (x : Policy × List Token) → A.valued ≡ true → From code A at us → read_leaf us ≡ some x → IsRow code attributes A at r x

-- a number in two bytes, low byte first
abbrev pub low : ℕ → ℕ
low n = n % 256

abbrev pub high : ℕ → ℕ
high n = n / 256 % 256

-- the bytes of a row
abbrev pub row_of : Term → Bytes
row_of t =
    t.kind
    ∷ t.left.ty ∷ t.left.place ∷ low t.left.start ∷ high t.left.start ∷ low t.left.end ∷ high t.left.end
    ∷ t.right.ty ∷ t.right.place ∷ low t.right.start ∷ high t.right.start ∷ low t.right.end ∷ high t.right.end
    ∷ low t.next ∷ high t.next ∷ 0 ∷ []

-- a token passed, or the row of a term written, by the kind: r is where the code goes on
pub record TokenDone (code : Bytes) (attributes : List ℕ) (kind at row : ℕ) (rows rows' : Bytes) (r : ℕ) : Type 0 where
  pub mark : is_passed kind ≡ true → (rows' ≡ rows) × (r ≡ at + 1)
  pub a-term : is_passed kind ≡ false → (t : Term) × RowRead code attributes at t × (rows' ≡ sets rows row (row_of t)) × (r ≡ max (at + 1) t.next)
  pub ahead : at < r
  pub long : length rows' ≡ length rows

-- code and rows are a program of whatever policy the code is that of, if there is room for as many rows as a policy may have terms
abbrev pub Compiled : Bytes → List ℕ → Bytes → Type 0
Compiled code attributes rows =
    (D : Declarations) (ts : List Token) (p : Policy) → Coded D code 0 ts → all_of is_token ts ≡ true → any_of (unknown_name D) ts ≡ false → read_policy ts ≡ some p
    → too_large p ≡ false → row_bytes * term_limit ≤ length rows → ProgrammedBy attributes D code rows ts
