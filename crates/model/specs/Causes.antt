-- Document 02, E2: "Two sorts of undefined". Whether what is UNDEF is so for lack of a value. It is found beside the value, which stays document 01's.
use Rattle.std.specs.Prelude.{ℕ, Bool, false, ◌&&◌, ◌||◌, List}
use Rattle.std.proofs.Math.Option.{none, some}
use Rattle.model.specs.Notation.{if◌then◌otherwise◌, is_empty}
use Rattle.model.specs.Bytes.{Bytes, bytes}
use Rattle.model.specs.Atoms.{Atom}
use Rattle.model.specs.Truth.{Truth, is_undef}
use Rattle.model.specs.Tokens.{Token}
use Rattle.model.specs.Grammar.{Policy, constant, lone, compare, not, and, or, parenthesised, read_policy}
use Rattle.model.specs.Meaning.{Values, values_of, meaning}

-- "absent (an operand or that attribute lacks values, even if types differ too) or unlike (all other UNDEF, the constant too)"
pub data Cause : Type 0 where
  absent unlike : Cause

-- "`gate` prints `try=undefined,absent` or `try=undefined,unlike`"
abbrev pub cause_word : Cause → Bytes
cause_word absent = bytes "absent"
cause_word unlike = bytes "unlike"

-- the number of a cause among the values of an answer
abbrev pub cause_number : Cause → ℕ
cause_number absent = 1
cause_number unlike = 2

-- "lacks values"
abbrev pub lacks : List Atom → Bool
lacks values = is_empty values

-- "An UNDEF built by AND, OR or NOT is absent if one of its UNDEF operands is": what is built has the value t, and a and b say of each operand whether it
-- is UNDEF and absent
abbrev pub built : Truth → Bool → Bool → Bool
built t a b = is_undef t && (a || b)

-- whether a part is UNDEF and absent. "A comparison or a lone attribute now says which": UNDEF it is wherever values are lacking. A NOT is UNDEF where its
-- operand is
abbrev pub is_absent : Values → Policy → Bool
is_absent read (constant t) = false
is_absent read (lone s n) = lacks (read s n)
is_absent read (compare o v w) = lacks (values_of read v) || lacks (values_of read w)
is_absent read (not p) = is_absent read p
is_absent read (and p q) = built (meaning read (and p q)) (is_absent read p) (is_absent read q)
is_absent read (or p q) = built (meaning read (or p q)) (is_absent read p) (is_absent read q)
is_absent read (parenthesised p) = is_absent read p

-- the same of a rule, by its tokens; an accepted rule's tokens are a policy
unfoldable pub absent_of : Values → List Token → Bool
absent_of read ts = elim (read_policy ts) [ some p ↦ is_absent read p | none ↦ false ]

-- "absent … or unlike (all other UNDEF …)": the cause of what is UNDEF
abbrev pub cause_by : Bool → Cause
cause_by is-absent = if is-absent then absent otherwise unlike
