-- What a line does to a book. Assumes nothing: these are definitions.
use Rattle.std.specs.Prelude.{ℕ, ◌≡◌, List, [], ◌∷◌}
use Rattle.model.specs.Numbers as refusal
use Rattle.model.specs.Bytes.{Bytes}
use Rattle.model.specs.Lines.{Line}
use Rattle.model.specs.State.{State, after}
use Rattle.model.specs.Refusals.{Test, ◌if◌, first, over_limits, undeclared, wrong_sort, repeated, full, circular}
use Rattle.model.specs.Standing.{Standing}
use Rattle.book.specs.Held.{Holds}

-- the tests of a line that reads as l, behind those of its bytes
abbrev pub later_tests : State → Line → List Test
later_tests S l =
    refusal.over_limits if over_limits l
    ∷ refusal.undeclared if undeclared S.declared l
    ∷ refusal.wrong_sort if wrong_sort S.declared l
    ∷ refusal.repeated if repeated S l
    ∷ refusal.full if full S.declared l
    ∷ refusal.circular if circular S l
    ∷ []

-- r is what a line that reads as l is refused for, whatever standing state the book holds; where it is for nothing, the book then holds the state with it
abbrev pub Steps : List ℕ → Bytes → Line → List ℕ → Bytes → ℕ → Type 0
Steps book code l book' code' r =
    (S : State) → Standing S → Holds book code S → (r ≡ first (later_tests S l)) × (r ≡ 0 → Holds book' code' (after l S))
