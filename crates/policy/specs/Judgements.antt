-- What is said of a whole policy: whether it is one, and whether it is accepted.
use Rattle.std.specs.Prelude.{ℕ, ◌+◌, ◌*◌, min, ◌≡◌, Bool, List, [], ◌∷◌, ◌++◌, length, drop}
use Rattle.std.proofs.Math.Option.{Option, none, some}
use Rattle.model.specs.Numbers as refusal
use Rattle.model.specs.Notation.{◌>>=◌, ◌is◌, is_none, any_of}
use Rattle.model.specs.Bytes.{Bytes}
use Rattle.model.specs.Declarations.{Declarations}
use Rattle.model.specs.Tokens.{Token, tokens_of}
use Rattle.model.specs.Grammar.{Policy, read_policy, too_large, terms, depth, largest_set}
use Rattle.model.specs.Refusals.{Test, ◌if◌, first, unknown_name}
use Rattle.model.specs.Standing.{WellDeclared}
use Rattle.rows.specs.Rows.{AttributeRows}
use Rattle.tokens.specs.RuleCode.{rule_code}
use Rattle.policy.specs.declared.scan.Stand.{Stand}
use Rattle.policy.specs.declared.scan.Stand.TheVariants.{Before, Behind, Whole, Failed}

-- where the loop ends: whether there is a policy, and its counts, no further than is needed to see that a limit is passed
abbrev pub Counted : Stand → Option Policy → Type 0
Counted (Before x) o = ⊥
Counted (Behind x) o = ⊥
Counted (Whole x) none = ⊥
Counted (Whole x) (some p) = (x.terms ≡ min 17 (terms p)) × (x.depth ≡ min 9 (depth p)) × (x.largest ≡ min 9 (largest_set p))
Counted Failed none = Unit {0}
Counted Failed (some p) = ⊥

-- the tests of a policy alone: 6 malformed, 7 over the limits, 8 a name that is not declared
abbrev pub policy_tests : Declarations → Option (List Token) → Option Policy → List Test
policy_tests D ts p = refusal.malformed if is_none p ∷ refusal.over_limits if (p is too_large) ∷ refusal.undeclared if (ts is any_of (unknown_name D)) ∷ []

unfoldable pub policy_number : Declarations → Bytes → ℕ
policy_number D s = first (policy_tests D (tokens_of s) (tokens_of s >>= read_policy))

-- n is the number of the first test that holds of what the loop came to
abbrev pub Refuses : Stand → Bool → ℕ → Type 0
Refuses s unknown n =
    (o : Option Policy) (D : Declarations) (ts : List Token)
    → Counted s o → unknown ≡ any_of (unknown_name D) ts → n ≡ first (policy_tests D (some ts) o)

-- n is what the policy s alone is refused for, whatever declarations the rows are those of; where it has tokens, `after` is `before` with their
-- code at its front, and what lies behind the bytes that any code of s may take keeps its content
pub record Judges (s : Bytes) (rows : List ℕ) (before after : Bytes) (n : ℕ) : Type 0 where
  pub number : (D : Declarations) → WellDeclared D → AttributeRows rows D → n ≡ policy_number D s
  pub code : (D : Declarations) → WellDeclared D → AttributeRows rows D → (ts : List Token) → tokens_of s ≡ some ts
      → after ≡ rule_code D ts ++ drop (length (rule_code D ts)) before
  pub long : length after ≡ length before
  pub behind : drop (3 * length s + 3) after ≡ drop (3 * length s + 3) before
