-- How terms joined by one word nest does not matter: AND and OR are associative, and so are their policies' meanings.
use mathlib.Core.Path.{◌≡◌, refl}
use Rattle.model.specs.Truth.{Truth, FALSE, UNDEF, TRUE, ◌AND◌, ◌OR◌}
use Rattle.model.specs.Grammar.{Policy, and, or}
use Rattle.model.specs.Meaning.{Values, meaning}

pub AND-associates : (a b c : Truth) → (a AND b) AND c ≡ a AND (b AND c)
AND-associates FALSE b c = refl
AND-associates TRUE b c = refl
AND-associates UNDEF FALSE c = refl
AND-associates UNDEF TRUE c = refl
AND-associates UNDEF UNDEF FALSE = refl
AND-associates UNDEF UNDEF UNDEF = refl
AND-associates UNDEF UNDEF TRUE = refl

pub OR-associates : (a b c : Truth) → (a OR b) OR c ≡ a OR (b OR c)
OR-associates TRUE b c = refl
OR-associates FALSE b c = refl
OR-associates UNDEF TRUE c = refl
OR-associates UNDEF FALSE c = refl
OR-associates UNDEF UNDEF FALSE = refl
OR-associates UNDEF UNDEF UNDEF = refl
OR-associates UNDEF UNDEF TRUE = refl

pub and-nests : (read : Values) (p q r : Policy) → meaning read (and (and p q) r) ≡ meaning read (and p (and q r))
and-nests read p q r = AND-associates (meaning read p) (meaning read q) (meaning read r)

pub or-nests : (read : Values) (p q r : Policy) → meaning read (or (or p q) r) ≡ meaning read (or p (or q r))
or-nests read p q r = OR-associates (meaning read p) (meaning read q) (meaning read r)
