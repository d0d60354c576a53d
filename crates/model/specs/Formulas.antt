-- Document 02, E4: "K3 without its table". AND, OR and NOT "put as formulas that can be checked by eye", on numbers, and what a request is answered by them.
use Rattle.std.specs.Prelude.{ℕ, ◌-◌, min, max, Bool, false, ◌&&◌, ◌||◌, List, eqb}
use Rattle.std.proofs.Math.Option.{Option, none, some}
use Rattle.model.specs.Notation.{if◌then◌otherwise◌, any_of, map, find}
use Rattle.model.specs.Bytes.{Bytes}
use Rattle.model.specs.Truth.{Truth, FALSE, UNDEF, TRUE}
use Rattle.model.specs.Tokens.{Token}
use Rattle.model.specs.Grammar.{Policy, constant, lone, compare, not, and, or, parenthesised, read_policy}
use Rattle.model.specs.Comparison.{compare_sets, lone_value}
use Rattle.model.specs.Meaning.{Values, values_of}
use Rattle.model.specs.Causes.{Cause, lacks, cause_by}
use Rattle.model.specs.State.{State}
use Rattle.model.specs.Block.{Block, read_block}
use Rattle.model.specs.Session.{read_by}
use Rattle.model.specs.Refusals.{request_refusal}
use Rattle.model.specs.Decision.{Decision, permit, deny, undefined, refused, rules_for}

-- "with FALSE, UNDEF, TRUE as 0, 1, 2"
abbrev pub truth_number : Truth → ℕ
truth_number FALSE = 0
truth_number UNDEF = 1
truth_number TRUE = 2

-- "AND is the smaller"
abbrev pub and_number : ℕ → ℕ → ℕ
and_number a b = min a b

-- "OR the larger"
abbrev pub or_number : ℕ → ℕ → ℕ
or_number a b = max a b

-- "and NOT two minus its operand"
abbrev pub not_number : ℕ → ℕ
not_number a = 2 - a

-- ---- "every answer stays": the answers by these formulas

-- the value of a policy as a number; that of a constant, a lone attribute and a comparison is found as before
abbrev pub meaning_number : Values → Policy → ℕ
meaning_number read (constant t) = truth_number t
meaning_number read (lone s n) = truth_number (lone_value (read s n))
meaning_number read (compare o v w) = truth_number (compare_sets o (values_of read v) (values_of read w))
meaning_number read (not p) = not_number (meaning_number read p)
meaning_number read (and p q) = and_number (meaning_number read p) (meaning_number read q)
meaning_number read (or p q) = or_number (meaning_number read p) (meaning_number read q)
meaning_number read (parenthesised p) = meaning_number read p

-- "The causes of E2 are found beside it, by E2's rule": "An UNDEF built by AND, OR or NOT is absent if one of its UNDEF operands is"; UNDEF is 1
abbrev pub built_number : ℕ → Bool → Bool → Bool
built_number n a b = eqb n 1 && (a || b)

abbrev pub absent_beside : Values → Policy → Bool
absent_beside read (constant t) = false
absent_beside read (lone s n) = lacks (read s n)
absent_beside read (compare o v w) = lacks (values_of read v) || lacks (values_of read w)
absent_beside read (not p) = absent_beside read p
absent_beside read (and p q) = built_number (meaning_number read (and p q)) (absent_beside read p) (absent_beside read q)
absent_beside read (or p q) = built_number (meaning_number read (or p q)) (absent_beside read p) (absent_beside read q)
absent_beside read (parenthesised p) = absent_beside read p

-- both of a rule, by its tokens
unfoldable pub rule_number : Values → List Token → ℕ
rule_number read ts = elim (read_policy ts) [ some p ↦ meaning_number read p | none ↦ 1 ]

unfoldable pub rule_absent : Values → List Token → Bool
rule_absent read ts = elim (read_policy ts) [ some p ↦ absent_beside read p | none ↦ false ]

-- the rules of the operation, with the numbers of their values
unfoldable pub verdict_numbers : State → Block → List (ℕ × ℕ)
verdict_numbers S b = map (λ (k, r). (k, rule_number (read_by S b) r.tokens)) (rules_for S b)

unfoldable pub cause_beside : State → Block → Cause
cause_beside S b = cause_by (any_of (λ (k, r). rule_absent (read_by S b) r.tokens) (rules_for S b))

-- "Permit, with the lowest TRUE rule number; else undefined if some is UNDEF; else deny": TRUE is 2, UNDEF is 1
unfoldable pub decision_by_numbers : Cause → List (ℕ × ℕ) → Decision
decision_by_numbers c ns =
    elim (find (λ (k, n). eqb n 2) ns) [ some v ↦ permit v.0 | none ↦ if any_of (λ (k, n). eqb n 1) ns then undefined c otherwise deny ]

abbrev pub judged_by_numbers : State → ℕ → Option Block → Decision
judged_by_numbers S n none = refused n
judged_by_numbers S n (some b) = if eqb n 0 then decision_by_numbers (cause_beside S b) (verdict_numbers S b) otherwise refused n

-- a request
unfoldable pub decide_by_numbers : State → Bytes → Decision
decide_by_numbers S block = judged_by_numbers S (request_refusal S block) (read_block block)
