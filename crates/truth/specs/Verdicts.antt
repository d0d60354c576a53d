-- What a part of a policy comes to: its value, and beside it whether it is UNDEF and absent.
use Rattle.std.specs.Prelude.{ℕ, ◌+◌, ◌*◌, ◌≡◌, Bool, true, false, List}
use Rattle.model.specs.Truth as model
use Rattle.model.specs.Truth.{TRUE, FALSE, UNDEF, NOT, ◌AND◌, ◌OR◌}
use Rattle.model.specs.Tokens.{Token}
use Rattle.model.specs.Grammar.{Policy}
use Rattle.model.specs.Meaning.{Values, meaning, meaning_of}
use Rattle.model.specs.Causes.{built, is_absent, absent_of}
use Rattle.truth.specs.declared.verdict.Verdict as code
use Rattle.truth.specs.Truths.{truth_of}

pub record Verdict : Type 0 where
  pub value : model.Truth
  pub absent : Bool

abbrev pub verdict : model.Truth → Bool → Verdict
verdict value absent = record { value = value; absent = absent }

-- the verdict of the code
abbrev pub verdict_of : code.Verdict → Verdict
verdict_of v = verdict (truth_of v.value) v.absent

-- that of a policy, and of a rule by its tokens
abbrev pub policy_verdict : Values → Policy → Verdict
policy_verdict read p = verdict (meaning read p) (is_absent read p)

abbrev pub rule_verdict : Values → List Token → Verdict
rule_verdict read ts = verdict (meaning_of read ts) (absent_of read ts)

-- two joined by AND, and by OR
abbrev pub both : Verdict → Verdict → Verdict
both v w = verdict (v.value AND w.value) (built (v.value AND w.value) v.absent w.absent)

abbrev pub either : Verdict → Verdict → Verdict
either v w = verdict (v.value OR w.value) (built (v.value OR w.value) v.absent w.absent)

-- behind NOT, if one stands there
abbrev pub signed : Bool → Verdict → Verdict
signed true v = verdict (NOT v.value) v.absent
signed false v = v

-- ---- in three bits

abbrev pub flag_number : Bool → ℕ
flag_number false = 0
flag_number true = 1

abbrev pub truth_number : model.Truth → ℕ
truth_number FALSE = 0
truth_number UNDEF = 1
truth_number TRUE = 2

abbrev pub verdict_number : Verdict → ℕ
verdict_number v = truth_number v.value + 4 * flag_number v.absent

-- r is the verdict that has this number
abbrev pub OfNumber : ℕ → code.Verdict → Type 0
OfNumber n r = (v : Verdict) → n ≡ verdict_number v → verdict_of r ≡ v
