-- The whole table, against the specification. Assumes nothing: these are definitions.
use Rattle.std.specs.Prelude.{ℕ, ◌<◌, ◌≡◌, List, length}
use Rattle.model.specs.Limits.{holder_numbers, pair_limit}
use Rattle.model.specs.Declarations.{Declarations}
use Rattle.model.specs.Ties.{Ties}
use Rattle.model.specs.Table.{effective_set, table}
use Rattle.model.specs.Standing.{Standing}
use Rattle.bits.specs.Bits.{holds}
use Rattle.ties.specs.TieArrays.{KeepsTies, Room}

-- the sets of the first n holders in the table t are the effective ones on T
unfoldable pub KeepsSets : ℕ → List ℕ → Declarations → Ties → Type 0
KeepsSets n t D T = (k p : ℕ) → k < n → p < pair_limit → holds t k p ≡ effective_set D T k p

-- "Load and edits keep it equal to effective(k). Unused words are 0": for every standing state that the arrays keep, with room for its holders, the
-- sets are its effective ones; and a table for the number of holders of its edition is that state's table
pub record Filled (ups own slots t : List ℕ) : Type 0 where
  pub pairs : (D : Declarations) (T : Ties) → Standing (record { declared = D; ties = T }) → KeepsTies ups own slots T → Room D (length ups)
      → KeepsSets (length ups) t D T
  pub whole : (D : Declarations) (T : Ties) → Standing (record { declared = D; ties = T }) → KeepsTies ups own slots T → length ups ≡ holder_numbers D.edition
      → t ≡ table D T
