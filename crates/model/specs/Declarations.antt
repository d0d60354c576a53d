-- What the lines of a file declare, and the numbers by which it is known.
use Rattle.std.specs.Prelude.{ℕ, Bool, ◌&&◌, not, List, [], ◌∷◌, eqb}
use Rattle.std.proofs.Math.Option.{Option, none, some}
use Rattle.model.specs.Notation.{◌>>=◌, is_none, any_of, place, nth, find, count_of, map}
use Rattle.model.specs.Limits.{Edition}
use Rattle.model.specs.Bytes.{Bytes, bytes, same}
use Rattle.model.specs.Attributes.{Source, AtomType, same_source}
use Rattle.model.specs.Atoms.{Atom, same_atom}
use Rattle.model.specs.Tokens.{Token}

-- "`attr=SRC,NAME,TYPE`"
pub record Attribute : Type 0 where
  pub source : Source
  pub name : Bytes
  pub type : AtomType

-- "`atom=SRC.NAME,ATOM`: a pair of a user, object or admin attribute and a value of its type"
pub record Pair : Type 0 where
  pub source : Source
  pub name : Bytes
  pub atom : Atom

-- "`ugroup=`, `ogroup=`, `user=`, `object=` NAME: holders. Holder 0 is `admin`"
pub data Sort : Type 0 where
  admin ugroup ogroup user object : Sort

-- a holder, by its number, sort and NAME
pub record Holder : Type 0 where
  pub number : ℕ
  pub sort : Sort
  pub name : Bytes

-- "`rule=OP,POLICY`", "the rules, by their tokens"
pub record Rule : Type 0 where
  pub operation : Bytes
  pub tokens : List Token

-- "declarations D of the file (the rules, by their tokens, among them)"; document 02, E5: "The edition is one of the declarations". Attributes,
-- operations, pairs and rules are numbered by their places, from 0; holders have their numbers, and stand in the order of these
pub record Declarations : Type 0 where
  pub edition : Edition
  pub attributes : List Attribute
  pub operations : List Bytes
  pub pairs : List Pair
  pub holders : List Holder
  pub rules : List Rule

-- "Holder 0 is `admin`, always there": so it is in the empty D too. Of the edition document 02, E5 says: "an empty D has one too"
abbrev pub nothing_declared : Edition → Declarations
nothing_declared e = record {
  edition = e;
  attributes = [];
  operations = [];
  pairs = [];
  holders = record { number = 0; sort = Sort.admin; name = bytes "admin" } ∷ [];
  rules = [];
}

-- "Unique by SRC and NAME": whether two pairs of SRC and NAME are the same
abbrev pub same_source_and_name : Source → Bytes → Source → Bytes → Bool
same_source_and_name s n t m = same_source s t && same n m

-- attributes are "numbered from 0"
unfoldable pub attribute_number : Declarations → Source → Bytes → Option ℕ
attribute_number D s n = place (λ a. same_source_and_name a.source a.name s n) D.attributes

-- the attribute of that SRC and NAME
unfoldable pub attribute_of : Declarations → Source → Bytes → Option Attribute
attribute_of D s n = attribute_number D s n >>= nth D.attributes

-- so are operations
unfoldable pub operation_number : Declarations → Bytes → Option ℕ
operation_number D n = place (same n) D.operations

-- and pairs
unfoldable pub pair_number : Declarations → Source → Bytes → Atom → Option ℕ
pair_number D s n a = place (λ p. same_source_and_name p.source p.name s n && same_atom p.atom a) D.pairs

-- "Names are unique among holders"
unfoldable pub holder_number : Declarations → Bytes → Option ℕ
holder_number D n = find (λ h. same h.name n) D.holders >>= λ h. some h.number

-- the holder of a number
abbrev pub holder_of : Declarations → ℕ → Option Holder
holder_of D k = find (λ h. eqb h.number k) D.holders

-- and its sort
unfoldable pub sort_of : Declarations → ℕ → Option Sort
sort_of D k = holder_of D k >>= λ h. some h.sort

-- whether a number is that of a holder
abbrev pub is_holder : Declarations → ℕ → Bool
is_holder D k = not (is_none (holder_of D k))

-- the numbers of the holders
unfoldable pub holder_numbers_of : Declarations → List ℕ
holder_numbers_of D = map (λ h. h.number) D.holders

abbrev pub sort_word : Sort → Bytes
sort_word Sort.admin = bytes "admin"
sort_word Sort.ugroup = bytes "ugroup"
sort_word Sort.ogroup = bytes "ogroup"
sort_word Sort.user = bytes "user"
sort_word Sort.object = bytes "object"

abbrev pub is_sort : Sort → Sort → Bool
is_sort a b = same (sort_word a) (sort_word b)

-- "groups (both sorts together)"
abbrev pub group_sorts : List Sort
group_sorts = Sort.ugroup ∷ Sort.ogroup ∷ []

abbrev pub is_group : Sort → Bool
is_group s = any_of (is_sort s) group_sorts

-- how many holders are groups: "at most 64 groups"
unfoldable pub groups : Declarations → ℕ
groups D = count_of (λ h. is_group h.sort) D.holders

-- "The attribute is a user one for users and ugroups, an object one for objects and ogroups, an admin one for admin"
abbrev pub source_for : Sort → Source
source_for Sort.admin = Source.admin
source_for Sort.ugroup = Source.user
source_for Sort.ogroup = Source.object
source_for Sort.user = Source.user
source_for Sort.object = Source.object

-- "two groups of one sort": the sort of a group's parents
abbrev pub parent_sort : Sort → Option Sort
parent_sort Sort.admin = none
parent_sort Sort.ugroup = some Sort.ugroup
parent_sort Sort.ogroup = some Sort.ogroup
parent_sort Sort.user = none
parent_sort Sort.object = none

-- "a user in a ugroup or an object in an ogroup": the sort of the groups that one may be a member of
abbrev pub group_sort : Sort → Option Sort
group_sort Sort.admin = none
group_sort Sort.ugroup = none
group_sort Sort.ogroup = none
group_sort Sort.user = some Sort.ugroup
group_sort Sort.object = some Sort.ogroup
