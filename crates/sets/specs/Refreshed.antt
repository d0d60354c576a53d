-- The table after an edit, against the specification. Assumes nothing: these are definitions.
use Rattle.std.specs.Prelude.{ℕ, ◌+◌, ◌*◌, ◌/◌, ◌≤◌, ◌<◌, ◌≡◌, true, List, get_or, length}
use Rattle.model.specs.Limits.{group_limit, word_bits}
use Rattle.model.specs.Declarations.{Declarations, is_holder}
use Rattle.model.specs.Ties.{Ties}
use Rattle.model.specs.Edits.{changes, set_joins}
use Rattle.model.specs.Standing.{Standing, DifferAt}
use Rattle.ties.specs.TieArrays.{tied_up, Distinct, TellsGroups, KeepsTies, Room, Under}
use Rattle.sets.specs.Settled.{mark_words, MarksChanged}
use Rattle.sets.specs.Filled.{KeepsSets}

-- U is what an edit of the ties of e, a holder of D, made of T, both of standing states of D, the arrays keep it, and tell the groups
pub record EditedAt (ups own slots slot_of : List ℕ) (e : ℕ) (D : Declarations) (T U : Ties) : Type 0 where
  pub before : Standing (record { declared = D; ties = T })
  pub after : Standing (record { declared = D; ties = U })
  pub there : is_holder D e ≡ true
  pub differ : DifferAt e T U
  pub kept : KeepsTies ups own slots U
  pub tells : TellsGroups (length ups) slots slot_of

-- for any arrays, the words of a holder that is not e, and has no tie up to a group that is e or below it, are as they were
unfoldable pub Elsewhere : List ℕ → List ℕ → ℕ → List ℕ → List ℕ → Type 0
Elsewhere ups slots e t t' =
    (j : ℕ) → (j / 4 ≡ e → ⊥) → ((q : ℕ) → q < group_limit → tied_up ups (j / 4) q ≡ true → Under ups slots e q → ⊥) → get_or t' j 0 ≡ get_or t j 0

-- from the table t to t', and from the marks m to m': the sets that changed are marked
pub record Rewritten (ups own slots slot_of : List ℕ) (e : ℕ) (t t' m m' : List ℕ) : Type 0 where
  pub right : (D : Declarations) (T U : Ties) → EditedAt ups own slots slot_of e D T U → Room D (length ups)
      → KeepsSets (length ups) t D T → KeepsSets (length ups) t' D U
  pub told : Distinct (length ups) slots → TellsGroups (length ups) slots slot_of → MarksChanged m m' t t'
  pub elsewhere : Elsewhere ups slots e t t'

-- from the table t to t': r holders' sets changed, on any arrays no more than there are marks, and it took j joins, on any arrays no more than 65 for each mark
pub record Refreshed (ups own slots slot_of : List ℕ) (e : ℕ) (t t' : List ℕ) (r j : ℕ) : Type 0 where
  pub pairs : (D : Declarations) (T U : Ties) → EditedAt ups own slots slot_of e D T U → Room D (length ups)
      → KeepsSets (length ups) t D T → KeepsSets (length ups) t' D U × (r ≡ changes D T U)
  pub joined : (D : Declarations) (T U : Ties) → EditedAt ups own slots slot_of e D T U → Room D (length ups) → j ≡ set_joins D U e
  pub elsewhere : Elsewhere ups slots e t t'
  pub at-most : r ≤ word_bits * mark_words
  pub joins-at-most : j ≤ (group_limit + 1) * (word_bits * mark_words)
