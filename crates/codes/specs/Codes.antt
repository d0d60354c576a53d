-- The numbers of sources, types, keys, truth values and tokens; 0 stands for none.
use Rattle.std.specs.Prelude.{ℕ, suc}
use Rattle.std.proofs.Math.Option.{Option, none, some}
use Rattle.model.specs.Attributes.{Source, AtomType}
use Rattle.model.specs.Keys.{Key, rank}
use Rattle.model.specs.Truth.{Truth, FALSE, UNDEF, TRUE}
use Rattle.model.specs.Tokens.{Token, name, int, str, truth, operator, mark, Operator, Mark, equal, unequal, less, at_most, greater, at_least, IN, SUBSET, AND, OR, NOT, lparen, rparen, lbrace, rbrace, comma}

-- the number of what was read
abbrev pub coded : {A : Type 0} → (A → ℕ) → Option A → ℕ
coded code none = 0
coded code (some a) = code a

abbrev pub source_code : Source → ℕ
source_code Source.user = 1
source_code Source.object = 2
source_code Source.admin = 3
source_code Source.env = 4
source_code Source.connect = 5

abbrev pub type_code : AtomType → ℕ
type_code AtomType.int = 1
type_code AtomType.str = 2
type_code AtomType.bool = 3

-- a key's place in their order, from 1
abbrev pub key_code : Key → ℕ
key_code k = suc (rank k)

abbrev pub truth_code : Truth → ℕ
truth_code FALSE = 13
truth_code UNDEF = 14
truth_code TRUE = 15

abbrev pub operator_code : Operator → ℕ
operator_code equal = 16
operator_code IN = 17
operator_code unequal = 18
operator_code SUBSET = 19
operator_code less = 20
operator_code at_most = 21
operator_code greater = 22
operator_code at_least = 23

abbrev pub mark_code : Mark → ℕ
mark_code lparen = 5
mark_code rparen = 6
mark_code lbrace = 7
mark_code rbrace = 8
mark_code comma = 9
mark_code AND = 10
mark_code OR = 11
mark_code NOT = 12

-- behind the last token, and where there is no token
abbrev pub end_code : ℕ
end_code = 0

abbrev pub bad_code : ℕ
bad_code = 24

abbrev pub name_code : ℕ
name_code = 4

-- the kind of a token: that of a constant is the number of its type
abbrev pub kind_of : Token → ℕ
kind_of (name s n) = name_code
kind_of (int n) = type_code AtomType.int
kind_of (str s) = type_code AtomType.str
kind_of (truth t) = truth_code t
kind_of (operator o) = operator_code o
kind_of (mark m) = mark_code m
