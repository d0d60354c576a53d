-- The tie that a line gives, by its names and by its fields, and what it is refused for. Assumes nothing: these are definitions.
use Rattle.std.specs.Prelude.{ℕ, Option, Result, Ok, Err, ◌≡◌, true, List, [], ◌∷◌}
use Rattle.std.proofs.Math.Option as math
use Rattle.std.proofs.Math.Option.{some}
use Rattle.model.specs.Numbers as refusal
use Rattle.model.specs.Notation.{if◌then◌otherwise◌, ◌>>=◌, ◌is◌, is_none}
use Rattle.model.specs.Bytes.{Bytes}
use Rattle.model.specs.Names.{is_name}
use Rattle.model.specs.Attributes as attributes
use Rattle.model.specs.Atoms.{Atom, is_atom}
use Rattle.model.specs.Keys.{Key, is_tie_key}
use Rattle.model.specs.Lines.{Line, read_fields}
use Rattle.model.specs.Declarations as declarations
use Rattle.model.specs.Declarations.{Sort, parent_sort, group_sort, pair_number, holder_number}
use Rattle.model.specs.Ties as ties
use Rattle.model.specs.State as state
use Rattle.model.specs.State.{State}
use Rattle.model.specs.Refusals.{Test, ◌if◌, first, undeclared, wrong_sort}
use Rattle.model.specs.Standing.{Standing, TieFits}
use Rattle.codes.specs.declared.Source.{Source}
use Rattle.codes.specs.declared.Refusal.{Refusal}
use Rattle.codes.specs.declared.Refusal.TheVariants.{Undeclared}
use Rattle.codes.specs.Codes.{key_code}
use Rattle.codes.specs.Enums.{source_for, number_in, told, told_by}
use Rattle.text.specs.declared.Packed.{Packed}
use Rattle.text.specs.declared.Value.{Value}
use Rattle.text.specs.Packing.{packed_of}
use Rattle.text.specs.Values.{atom_value}
use Rattle.book.specs.Held.{sort_code, Holds}
use Rattle.tielines.specs.declared.Tie.{Tie}
use Rattle.tielines.specs.declared.Tie.TheVariants as tie

-- the tie of the specification
abbrev pub tie_of : Tie → ties.Tie
tie_of (tie.Parent child group) = ties.Tie.parent child group
tie_of (tie.Member party group) = ties.Tie.member party group
tie_of (tie.Value holder pair) = ties.Tie.value holder pair

-- the names, the pair and the sorts of a tie line: 8 or 9, or its tie
abbrev pub tie_tests : State → Line → List Test
tie_tests S l = refusal.undeclared if undeclared S.declared l ∷ refusal.wrong_sort if wrong_sort S.declared l ∷ []

-- r is what a line that reads as l is refused for by its names, or its tie
abbrev pub TieOfLine : List ℕ → Line → Result Tie Refusal → Type 0
TieOfLine book l r =
    (S : State) (code : Bytes) → Standing S → Holds book code S
    → (number_in r ≡ first (tie_tests S l)) × ((t : Tie) → r ≡ Ok t → state.tie_of S.declared l ≡ some (tie_of t))

-- a number that a name or a pair has, or what its absence is refused for
abbrev pub declared_as : math.Option ℕ → Result ℕ Refusal
declared_as math.none = Err Undeclared
declared_as (some k) = Ok k

-- r is the number of a holder, whatever standing state the book holds
abbrev pub HolderNamed : List ℕ → Packed → Result ℕ Refusal → Type 0
HolderNamed book name r =
    (S : State) (code : Bytes) → Standing S → Holds book code S → (n : Bytes) → is_name n ≡ true → packed_of n ≡ name
    → r ≡ declared_as (holder_number S.declared n)

-- r is the sort that stands above one in a parent tie, or in a member tie, by the key
abbrev pub SortAbove : ℕ → ℕ → Option ℕ → Type 0
SortAbove key sort r =
    (s : Sort) → sort ≡ sort_code s
    → (key ≡ key_code Key.parent → r ≡ told_by sort_code (parent_sort s)) × (key ≡ key_code Key.member → r ≡ told_by sort_code (group_sort s))

-- what a line with these names is refused for, or its tie: a parent line or a member line, by its key
abbrev pub TwoNamed : List ℕ → ℕ → Packed → Packed → Result Tie Refusal → Type 0
TwoNamed book key lower upper r =
    (c g : Bytes) → is_name c ≡ true → is_name g ≡ true → packed_of c ≡ lower → packed_of g ≡ upper
    → (key ≡ key_code Key.parent → TieOfLine book (Line.parent c g) r) × (key ≡ key_code Key.member → TieOfLine book (Line.member c g) r)

-- the source of the attributes that a sort fixes
abbrev pub SourceOfSort : ℕ → Source → Type 0
SourceOfSort sort r = (s : Sort) → sort ≡ sort_code s → r ≡ source_for (declarations.source_for s)

-- r is the number of a pair, whatever standing state the book holds
abbrev pub PairNamed : List ℕ → Source → Packed → Value → Option ℕ → Type 0
PairNamed book source name value r =
    (S : State) (code : Bytes) → Standing S → Holds book code S → (s : attributes.Source) (n : Bytes) (a : Atom) → is_name n ≡ true → is_atom a ≡ true
    → source ≡ source_for s → packed_of n ≡ name → atom_value a ≡ value → r ≡ told (pair_number S.declared s n a)

-- what a value line with these names and this atom is refused for, or its tie
abbrev pub ValueNamed : List ℕ → Packed → Packed → Value → Result Tie Refusal → Type 0
ValueNamed book holder name value r =
    (h n : Bytes) (a : Atom) → is_name h ≡ true → is_name n ≡ true → is_atom a ≡ true → packed_of h ≡ holder → packed_of n ≡ name → atom_value a ≡ value
    → TieOfLine book (Line.value h n a) r

-- a refusal by tests, or the tie of the line that was read, which fits the declarations
pub record ReadTie (S : State) (tests : List Test) (l : math.Option Line) (r : Result Tie Refusal) : Type 0 where
  pub refusal : number_in r ≡ first tests
  pub tie : (t : Tie) → r ≡ Ok t → (l >>= state.tie_of S.declared) ≡ some (tie_of t)
  pub fits : (t : Tie) → r ≡ Ok t → TieFits S.declared (tie_of t)

-- for every standing state that the book holds
abbrev pub BookTie : List ℕ → (State → List Test) → math.Option Line → Result Tie Refusal → Type 0
BookTie book tests l r = (S : State) (code : Bytes) → Standing S → Holds book code S → ReadTie S (tests S) l r

-- what is read from fields: 6, 8 and 9
abbrev pub field_tests : math.Option Line → State → List Test
field_tests l S = refusal.malformed if is_none l ∷ refusal.undeclared if (l is undeclared S.declared) ∷ refusal.wrong_sort if (l is wrong_sort S.declared) ∷ []

-- the tie of fields that read as l, and that of the fields behind a key of ties
abbrev pub FieldsTie : List ℕ → math.Option Line → Result Tie Refusal → Type 0
FieldsTie book l r = BookTie book (field_tests l) l r

abbrev pub KeyTie : List ℕ → ℕ → Bytes → Result Tie Refusal → Type 0
KeyTie book key f r = (k : Key) → is_tie_key k ≡ true → key ≡ key_code k → FieldsTie book (read_fields k f) r
