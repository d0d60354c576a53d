-- Kleene's three-valued logic K3.
use Rattle.std.specs.Prelude.{Bool, true, false}
use Rattle.model.specs.Bytes.{Bytes, bytes}

-- "TRUE, FALSE, UNDEF"
pub data Truth : Type 0 where
  FALSE UNDEF TRUE : Truth

abbrev pub truth_word : Truth → Bytes
truth_word FALSE = bytes "FALSE"
truth_word UNDEF = bytes "UNDEF"
truth_word TRUE = bytes "TRUE"

-- the truth of a test
abbrev pub truth : Bool → Truth
truth true = TRUE
truth false = FALSE

-- "NOT swaps TRUE and FALSE"
abbrev pub NOT : Truth → Truth
NOT FALSE = TRUE
NOT UNDEF = UNDEF
NOT TRUE = FALSE

-- "AND is FALSE if either is, else UNDEF if either is, else TRUE"
infixl 6 ◌AND◌
abbrev pub ◌AND◌ : Truth → Truth → Truth
FALSE AND b = FALSE
UNDEF AND FALSE = FALSE
UNDEF AND UNDEF = UNDEF
UNDEF AND TRUE = UNDEF
TRUE AND b = b

-- "OR is its dual"
infixl 5 ◌OR◌
abbrev pub ◌OR◌ : Truth → Truth → Truth
TRUE OR b = TRUE
UNDEF OR TRUE = TRUE
UNDEF OR UNDEF = UNDEF
UNDEF OR FALSE = UNDEF
FALSE OR b = b

-- whether a value is TRUE, and whether it is UNDEF
abbrev pub is_true : Truth → Bool
is_true TRUE = true
is_true UNDEF = false
is_true FALSE = false

abbrev pub is_undef : Truth → Bool
is_undef TRUE = false
is_undef UNDEF = true
is_undef FALSE = false
