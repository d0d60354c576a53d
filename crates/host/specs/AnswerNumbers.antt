-- Answers as one number. Assumes nothing: these are definitions.
use Rattle.std.specs.Prelude.{ℕ, ◌/◌, ◌%◌, ◌≡◌, List, [], ◌∷◌, eqb}
use Rattle.model.specs.Bytes.{Bytes}
use Rattle.model.specs.Ledger.{Answer, loaded, edited}
use Rattle.model.specs.Notation.{if◌then◌otherwise◌}
use Rattle.model.specs.Decision.{Decision, number_and_values}
use Rattle.request.specs.declared.Decision as request
use Rattle.request.specs.Decisions.{decision_of, number_and_values_of, Decides}

-- where the high bits begin: 2 to the power of 32
abbrev pub high : ℕ
high = 4294967296

-- r has a number in its low bits, and what it carries in its high ones
pub record Packs (number carried r : ℕ) : Type 0 where
  pub low_bits : r % high ≡ number
  pub high_bits : r / high ≡ carried

-- the answer of a load: the number in the low bits, the line in the high ones
abbrev pub load_answer : ℕ → Answer
load_answer r = loaded (r % high) (r / high)

-- where the bits of the joins begin within the high ones: 2 to the power of 12
abbrev pub count_numbers : ℕ
count_numbers = 4096

-- the answer of an edit: the number in the low bits; in the high ones the count, and above it the joins
abbrev pub edit_answer : ℕ → Answer
edit_answer r = edited (r % high) (r / high % count_numbers) (r / high / count_numbers)

-- the value that an answer carries, if it has that number; else 0
abbrev pub carried_with : ℕ → ℕ × List ℕ → ℕ
carried_with n (m, []) = 0
carried_with n (m, v ∷ values) = if eqb m n then v otherwise 0

-- by this paper's number and values: the rule of a permit, 0, and the cause of what is undefined, 65
abbrev pub rule_in : Decision → ℕ
rule_in d = carried_with 0 (number_and_values d)

abbrev pub cause_in : Decision → ℕ
cause_in d = carried_with 65 (number_and_values d)

-- where the bits of the cause begin within the high ones: 2 to the power of 8
abbrev pub rule_numbers : ℕ
rule_numbers = 256

-- r is the number of the decision on a request, the rule of a permit, and the cause of what is undefined
pub record RequestNumber (block : Bytes) (book : List ℕ) (code : Bytes) (words : List ℕ) (r : ℕ) : Type 0 where
  pub decision : request.Decision
  pub decides : Decides block book code words decision
  pub number : r % high ≡ (number_and_values_of decision).0
  pub rule : r / high % rule_numbers ≡ rule_in (decision_of decision)
  pub cause : r / high / rule_numbers ≡ cause_in (decision_of decision)
