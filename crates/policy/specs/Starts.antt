-- How a term begins: what its tokens say before any policy in parentheses is read.
use Rattle.std.specs.Prelude.{Bool, true, false, List, [], ◌∷◌}
use Rattle.std.proofs.Math.Option.{none, some}
use Rattle.model.specs.Notation.{◌>>=◌}
use Rattle.model.specs.Tokens.{Token, Mark}
use Rattle.model.specs.Grammar.{Var, constants, attribute, Policy, constant, lone, not, is_mark, behind_mark, Reading, read_comparison, closed}

-- a term without parentheses, and the tokens behind it; a parenthesis, after NOT or not, and the tokens of its policy; or neither
pub data Start : Type 0 where
  whole : Policy → List Token → Start
  opened : Bool → List Token → Start
  neither : Start

abbrev pub simple_start : List Token → Start
simple_start [] = neither
simple_start (Token.name s n ∷ ts) = whole (lone s n) ts
simple_start (Token.int n ∷ ts) = neither
simple_start (Token.str s ∷ ts) = neither
simple_start (Token.truth t ∷ ts) = whole (constant t) ts
simple_start (Token.operator o ∷ ts) = neither
simple_start (Token.mark m ∷ ts) = elim (is_mark Mark.lparen m) [ true ↦ opened false ts | false ↦ neither ]

abbrev pub negated_start : Start → Start
negated_start (whole p ts) = whole (not p) ts
negated_start (opened b ts) = opened true ts
negated_start neither = neither

-- what was read, or else another start
abbrev pub read_or : Start → Reading → Start
read_or x none = x
read_or x (some (p, ts)) = whole p ts

-- a term without NOT: a comparison, or else a simple term
unfoldable pub plain_start : List Token → Start
plain_start ts = read_or (simple_start ts) (read_comparison ts)

-- after NOT or not
abbrev pub signed_start : Bool → List Token → Start
signed_start true ts = negated_start (simple_start ts)
signed_start false ts = plain_start ts

unfoldable pub term_start : List Token → Start
term_start ts = elim (behind_mark Mark.NOT ts) [ some rest ↦ negated_start (simple_start rest) | none ↦ plain_start ts ]

-- a var that no operator follows
abbrev pub alone_start : Var → List Token → Start
alone_start (constants l) ts = neither
alone_start (attribute s n) ts = whole (lone s n) ts

-- a policy, after NOT or not
abbrev pub negated_if : Bool → Policy → Policy
negated_if true p = not p
negated_if false p = p

-- a policy that was read in parentheses: their end
abbrev pub closed_by : Bool → Reading → Reading
closed_by b o = o >>= closed >>= λ (p, rest). some (negated_if b p, rest)
