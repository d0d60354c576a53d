-- Lists of inputs with the answers that they should get.
use mathlib.Core.Path.{◌≡◌}
use mathlib.Core.List.{List}
use Rattle.model.specs.Notation.{map}

-- an input and its answer
infix 70 ◌yields◌
abbrev pub ◌yields◌ : {A B : Type 0} → A → B → A × B
a yields b = (a, b)

-- a definition gives each input of the list its answer
abbrev pub Agree : {A B : Type 0} → (A → B) → List (A × B) → Type 0
Agree f cases = map (λ c. f c.0) cases ≡ map (λ c. c.1) cases
