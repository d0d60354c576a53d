-- The reader of policies reads exactly what obeys the grammar, and so tokens are at most one policy.
use mathlib.Core.Path.{◌≡◌, sym, ◌∙◌}
use mathlib.Core.Logic.{◌↔◌}
use mathlib.Core.List.{List}
use mathlib.Core.Option.{some, some-injective}
use Rattle.model.specs.Tokens.{Token}
use Rattle.model.specs.Grammar.{Policy, Part, Obeys, read_policy}
use Rattle.model.proofs.Sound.{sound}
use Rattle.model.proofs.Complete.{complete}

pub reads-exactly : (ts : List Token) (p : Policy) → (read_policy ts ≡ some p) ↔ Obeys Part.policy ts p
reads-exactly ts p = (sound ts p, complete ts p)

pub one-policy : (ts : List Token) (p q : Policy) → Obeys Part.policy ts p → Obeys Part.policy ts q → p ≡ q
one-policy ts p q a b = some-injective p q (sym (complete ts p a) ∙ complete ts q b)
