-- The value of a policy.
use Rattle.std.specs.Prelude.{List}
use Rattle.std.proofs.Math.Option.{none, some}
use Rattle.model.specs.Bytes.{Bytes}
use Rattle.model.specs.Attributes.{Source}
use Rattle.model.specs.Atoms.{Atom}
use Rattle.model.specs.Truth.{Truth, NOT, ◌AND◌, ◌OR◌}
use Rattle.model.specs.Tokens.{Token}
use Rattle.model.specs.Grammar.{Var, constants, attribute, Policy, constant, lone, compare, not, and, or, parenthesised, read_policy}
use Rattle.model.specs.Comparison.{compare_sets, lone_value}

-- the values that each attribute has, by SRC and NAME: "An attribute with no value in the set that is read is absent"
abbrev pub Values : Type 0
Values = Source → Bytes → List Atom

-- "A constant is a set of one"
abbrev pub values_of : Values → Var → List Atom
values_of read (constants l) = l
values_of read (attribute s n) = read s n

-- "The rules of the operation are evaluated": the value of a policy
abbrev pub meaning : Values → Policy → Truth
meaning read (constant t) = t
meaning read (lone s n) = lone_value (read s n)
meaning read (compare o v w) = compare_sets o (values_of read v) (values_of read w)
meaning read (not p) = NOT (meaning read p)
meaning read (and p q) = meaning read p AND meaning read q
meaning read (or p q) = meaning read p OR meaning read q
meaning read (parenthesised p) = meaning read p

-- the value of a rule, by its tokens; an accepted rule's tokens are a policy
unfoldable pub meaning_of : Values → List Token → Truth
meaning_of read ts = elim (read_policy ts) [ some p ↦ meaning read p | none ↦ Truth.UNDEF ]
