-- What the readers of policies answer, against the readings of the specification.
use Rattle.std.specs.Prelude.{ℕ, ◌+◌, ◌*◌, ◌≤◌, ◌<◌, min, ◌≡◌, Bool, true, false, Option, Some, None, List, ◌∷◌, eqb, length, get_or}
use Rattle.std.proofs.Math.Option as math
use Rattle.std.proofs.Math.Option.{none, some}
use Rattle.model.specs.Notation.{any_of, all_of, map}
use Rattle.model.specs.Bytes.{Bytes}
use Rattle.model.specs.Attributes.{Source}
use Rattle.model.specs.Atoms.{Atom, type_of, is_atom}
use Rattle.model.specs.Tokens.{Token, is_token}
use Rattle.model.specs.Declarations.{Declarations, attribute_number}
use Rattle.model.specs.Refusals.{unknown_name}
use Rattle.model.specs.Grammar as grammar
use Rattle.model.specs.Grammar.{constants, attribute, atoms_in, largest_set, read_items, read_set, read_var, policy_within, conjunction_within, term_within}
use Rattle.model.specs.Meaning.{Values, values_of}
use Rattle.codes.specs.Codes.{kind_of, type_code}
use Rattle.text.specs.Values.{atom_words}
use Rattle.tokens.specs.RuleCode.{Coded, size}
use Rattle.values.specs.Operands.{Lent, lent, Stands, operand, constants_from, attribute_operand}
use Rattle.policy.specs.declared.Head.{Head}
use Rattle.policy.specs.declared.Head.TheVariants.{Leaf, Open}
use Rattle.values.specs.declared.Operand.{Operand}
use Rattle.policy.specs.declared.Meant.{Meant}
use Rattle.policy.specs.declared.Meant.TheVariants.{Constants as MeantConstants, Attribute}
use Rattle.policy.specs.declared.Var.{Var}
use Rattle.policy.specs.declared.Constants.{Constants}
use Rattle.policy.specs.Starts.{Start, whole, opened, neither, simple_start, signed_start, alone_start, closed_by}

-- ---- what is lent and what is asked

-- what the values of a var are looked up in, beside the code
pub record Lending : Type 0 where
  pub attributes : List ℕ
  pub pairs : List ℕ
  pub session : List ℕ
  pub entries : Bytes

abbrev pub lending : List ℕ → List ℕ → List ℕ → Bytes → Lending
lending attributes pairs session entries = record { attributes = attributes; pairs = pairs; session = session; entries = entries }

abbrev pub lent_with : Bytes → Lending → Lent
lent_with code L = lent code L.pairs L.session L.entries

-- the declarations that the code was written with, and whether values are asked for: then each token is well formed and no name undeclared
pub record Asked : Type 0 where
  pub declared : Declarations
  pub valued : Bool

-- from `at` on, the code holds the tokens ts
pub record From (code : Bytes) (A : Asked) (at : ℕ) (ts : List Token) : Type 0 where
  pub coded : Coded A.declared code at ts
  pub written : A.valued ≡ true → all_of is_token ts ≡ true
  pub known : A.valued ≡ true → any_of (unknown_name A.declared) ts ≡ false

-- the operand of each declared attribute stands for the values that `read` gives it
abbrev pub ReadsAs : Bytes → Lending → Declarations → Values → Type 0
ReadsAs code L D read =
    (s : Source) (n : Bytes) (k : ℕ) → attribute_number D s n ≡ some k → Stands (lent_with code L) (attribute_operand L.attributes k) (read s n)

-- ---- policies, conjunctions and terms

-- where a policy was read, the tokens behind it
abbrev pub Answers : Bytes → Asked → Option ℕ → grammar.Reading → Type 0
Answers code A (Some n) none = ⊥
Answers code A (Some n) (some y) = From code A n y.1
Answers code A None none = Unit {0}
Answers code A None (some y) = ⊥

-- what is read does not end before the position where it begins
abbrev pub Ahead : ℕ → Option ℕ → Type 0
Ahead at (Some n) = at ≤ n
Ahead at None = Unit {0}

-- the readers that call each other, at every bound that is large enough for the tokens
pub record Reader (within : ℕ → List Token → grammar.Reading) (d : ℕ) (code : Bytes) (at : ℕ) (r : Option ℕ) : Type 0 where
  pub ahead : Ahead at r
  pub answers : (A : Asked) (ts : List Token) → From code A at ts → (n : ℕ) → 3 * length ts + d ≤ n → Answers code A r (within n ts)

abbrev pub Terms : Bytes → ℕ → Option ℕ → Type 0
Terms = Reader (λ n ts. term_within n ts) 1

abbrev pub Conjunctions : Bytes → ℕ → Option ℕ → Type 0
Conjunctions = Reader (λ n ts. conjunction_within n ts) 2

abbrev pub Policies : Bytes → ℕ → Option ℕ → Type 0
Policies = Reader (λ n ts. policy_within n ts) 3

-- the end of a parenthesis, after what was read in it
pub record Closes (code : Bytes) (n : ℕ) (q : Option ℕ) : Type 0 where
  pub ahead : Ahead n q
  pub answers : (b : Bool) (A : Asked) (o : grammar.Reading) → Answers code A (Some n) o → Answers code A q (closed_by b o)

-- ---- how a term begins

-- the atoms are counted no further than is needed to see that the limit is passed
abbrev pub Starts : Bytes → Asked → Option Head → Start → Type 0
Starts code A (Some (Leaf n l)) (whole p ts) = From code A n ts × (l ≡ min 9 (largest_set p))
Starts code A (Some (Leaf n l)) (opened b ts) = ⊥
Starts code A (Some (Leaf n l)) neither = ⊥
Starts code A (Some (Open n)) (whole p ts) = ⊥
Starts code A (Some (Open n)) (opened b ts) = From code A n ts
Starts code A (Some (Open n)) neither = ⊥
Starts code A None (whole p ts) = ⊥
Starts code A None (opened b ts) = ⊥
Starts code A None neither = Unit {0}

abbrev pub Further : Bytes → ℕ → Option Head → Type 0
Further code at (Some (Leaf n l)) = at ≤ n
Further code at (Some (Open n)) = (at < n) × (at < length code)
Further code at None = Unit {0}

pub record Heads (start : List Token → Start) (code : Bytes) (at : ℕ) (h : Option Head) : Type 0 where
  pub further : Further code at h
  pub starts : (A : Asked) (ts : List Token) → From code A at ts → Starts code A h (start ts)

-- ---- vars

-- the operand that stands for what is meant, by the rows of the attributes
abbrev pub operand_of : List ℕ → Meant → Operand
operand_of rows (MeantConstants ty start end) = operand ty 2 start end
operand_of rows (Attribute k) = attribute_operand rows k

-- a set is not empty
abbrev pub SomeAtoms : grammar.Var → Type 0
SomeAtoms (constants l) = 0 < length l
SomeAtoms (attribute s n) = Unit {0}

-- a var that was read
pub record VarReads (code : Bytes) (L : Lending) (A : Asked) (v : Var) (w : grammar.Var) (rest : List Token) : Type 0 where
  pub behind : From code A v.next rest
  pub atom-count : v.atoms ≡ min 9 (atoms_in w)
  pub some-atoms : SomeAtoms w
  pub near : (rows : List ℕ) → ((operand_of rows v.meant).start ≤ length code + 255) × ((operand_of rows v.meant).end ≤ length code + 255)
  pub stands : A.valued ≡ true → (read : Values) → ReadsAs code L A.declared read → Stands (lent_with code L) (operand_of L.attributes v.meant) (values_of read w)

abbrev pub VarAnswers : Bytes → Lending → Asked → Option Var → math.Option (grammar.Var × List Token) → Type 0
VarAnswers code L A (Some v) none = ⊥
VarAnswers code L A (Some v) (some y) = VarReads code L A v y.0 y.1
VarAnswers code L A None none = Unit {0}
VarAnswers code L A None (some y) = ⊥

-- a var ends behind the position where it begins
abbrev pub Past : ℕ → Option Var → Type 0
Past at (Some v) = at < v.next
Past at None = Unit {0}

pub record Vars (code : Bytes) (at : ℕ) (v : Option Var) : Type 0 where
  pub past : Past at v
  pub answers : (L : Lending) (A : Asked) (ts : List Token) → From code A at ts → VarAnswers code L A v (read_var ts)

-- a set, behind its first brace
pub record SetVars (code : Bytes) (at : ℕ) (v : Option Var) : Type 0 where
  pub past : Past at v
  pub answers : (L : Lending) (A : Asked) (ts : List Token) → From code A at ts → VarAnswers code L A v (read_set ts)

-- the place behind a constant
pub record ConstantEnds (code : Bytes) (kind at r : ℕ) : Type 0 where
  pub further : at < r
  pub ends : (D : Declarations) (t : Token) (ts : List Token) → Coded D code at (t ∷ ts) → kind ≡ kind_of t → 1 ≤ kind → kind ≤ 2 → r ≡ at + size t

-- the constants of a set: all of one kind
abbrev pub of_kind : ℕ → Atom → Bool
of_kind kind a = eqb (type_code (type_of a)) kind

pub record ItemsRead (code : Bytes) (A : Asked) (kind at : ℕ) (r : Constants) (l : List Atom) (rest : List Token) : Type 0 where
  pub behind : From code A (r.end + 1) rest
  pub atom-count : r.atoms ≡ min 9 (length l)
  pub some-atoms : 0 < length l
  pub of-kind : all_of (of_kind kind) l ≡ true
  pub coded : A.valued ≡ true → constants_from kind code r.end at ≡ map atom_words l
  pub written : A.valued ≡ true → all_of is_atom l ≡ true

abbrev pub ItemsAnswers : Bytes → Asked → ℕ → ℕ → Option Constants → math.Option (List Atom × List Token) → Type 0
ItemsAnswers code A kind at (Some r) none = ⊥
ItemsAnswers code A kind at (Some r) (some y) = ItemsRead code A kind at r y.0 y.1
ItemsAnswers code A kind at None none = Unit {0}
ItemsAnswers code A kind at None (some y) = all_of (of_kind kind) y.0 ≡ false

abbrev pub EndsWithin : Bytes → ℕ → Option Constants → Type 0
EndsWithin code at (Some r) = (at < r.end) × (r.end < length code)
EndsWithin code at None = Unit {0}

pub record ItemsFrom (code : Bytes) (kind at : ℕ) (r : Option Constants) : Type 0 where
  pub within : EndsWithin code at r
  pub answers : 1 ≤ kind → kind ≤ 2 → (A : Asked) (ts : List Token) → From code A at ts → ItemsAnswers code A kind at r (read_items ts)

-- what a var comes to without an operator behind it
pub record Alone (v : Var) (h : Option Head) : Type 0 where
  pub further : (code : Bytes) (at : ℕ) → at ≤ v.next → Further code at h
  pub starts : (code : Bytes) (L : Lending) (A : Asked) (w : grammar.Var) (rest : List Token) → VarReads code L A v w rest → Starts code A h (alone_start w rest)

-- the var behind an operator, where one stands at a place and no NOT before the first var
abbrev pub SecondVars : Bytes → Bool → ℕ → Option Var → Type 0
SecondVars code negated at (Some w) = (negated ≡ false) × (16 ≤ get_or code at 0) × Vars code (at + 1) (Some w)
SecondVars code negated at None = negated ≡ false → 16 ≤ get_or code at 0 → get_or code at 0 ≤ 23 → Vars code (at + 1) None

-- what begins with a var, and what does not, wherever it was read
abbrev pub VarHeads : Bytes → Bool → Var → Option Head → Type 0
VarHeads code negated v h = (at : ℕ) → Vars code at (Some v) → Heads (signed_start negated) code at h

abbrev pub NoVarHeads : Bytes → ℕ → Option Head → Type 0
NoVarHeads code at h = Vars code at None → Heads (λ ts. simple_start ts) code at h
