-- What a comparison of two sets of values comes to.
use Rattle.std.specs.Prelude.{ℕ, Bool, true, false, List, [], ◌∷◌, leb, ltb}
use Rattle.model.specs.Notation.{if◌then◌otherwise◌, any_of, all_of}
use Rattle.model.specs.Attributes.{AtomType, same_type}
use Rattle.model.specs.Atoms.{Atom, type_of, same_atom}
use Rattle.model.specs.Truth.{Truth, truth, NOT}
use Rattle.model.specs.Tokens.{Operator}

-- "is among its values"
abbrev pub among : List Atom → Atom → Bool
among values a = any_of (same_atom a) values

-- "a common value exists"
abbrev pub common : List Atom → List Atom → Bool
common left right = any_of (among right) left

-- "each left value is among the right"
abbrev pub subset : List Atom → List Atom → Bool
subset left right = all_of (among right) left

-- two ints so ordered; other values are not
abbrev pub ordered : (ℕ → ℕ → Bool) → Atom → Atom → Bool
ordered before (Atom.int m) (Atom.int n) = before m n
ordered before (Atom.int m) (Atom.str t) = false
ordered before (Atom.int m) (Atom.bool b) = false
ordered before (Atom.str s) b = false
ordered before (Atom.bool a) b = false

-- "some left and some right value are so ordered"
abbrev pub some_ordered : (ℕ → ℕ → Bool) → List Atom → List Atom → Truth
some_ordered before left right = truth (any_of (λ a. any_of (ordered before a) right) left)

-- "an order between non-integers" gives UNDEF
abbrev pub order : (ℕ → ℕ → Bool) → AtomType → List Atom → List Atom → Truth
order before AtomType.int left right = some_ordered before left right
order before AtomType.str left right = Truth.UNDEF
order before AtomType.bool left right = Truth.UNDEF

-- the operators, on present operands of the type t: "`=` and IN: a common value exists. `!=`: the negation of `=`"
abbrev pub compare_like : Operator → AtomType → List Atom → List Atom → Truth
compare_like Operator.equal t left right = truth (common left right)
compare_like Operator.IN t left right = truth (common left right)
compare_like Operator.unequal t left right = NOT (truth (common left right))
compare_like Operator.SUBSET t left right = truth (subset left right)
compare_like Operator.less t left right = order (λ m n. ltb m n) t left right
compare_like Operator.at_most t left right = order (λ m n. leb m n) t left right
compare_like Operator.greater t left right = order (λ m n. ltb n m) t left right
compare_like Operator.at_least t left right = order (λ m n. leb n m) t left right

-- "Absent operands, different types, and an order between non-integers give UNDEF". The values of an operand have one type, that of its first
unfoldable pub compare_sets : Operator → List Atom → List Atom → Truth
compare_sets o [] right = Truth.UNDEF
compare_sets o (a ∷ left) [] = Truth.UNDEF
compare_sets o (a ∷ left) (b ∷ right) =
    if same_type (type_of a) (type_of b) then compare_like o (type_of a) (a ∷ left) (b ∷ right) otherwise Truth.UNDEF

-- "A lone attribute: UNDEF if absent or not bool, else whether TRUE is among its values"
unfoldable pub lone_value : List Atom → Truth
lone_value [] = Truth.UNDEF
lone_value (Atom.int n ∷ values) = Truth.UNDEF
lone_value (Atom.str s ∷ values) = Truth.UNDEF
lone_value (Atom.bool b ∷ values) = truth (among (Atom.bool b ∷ values) (Atom.bool true))
