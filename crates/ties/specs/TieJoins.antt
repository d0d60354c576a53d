-- Set joins by the arrays: those of one holder, and of all that are at a holder or below it. Assumes nothing: these are definitions.
use Rattle.std.specs.Prelude.{ℕ, ◌+◌, ◌≡◌, List, get_or, length}
use Rattle.model.specs.Notation.{if◌then◌otherwise◌, sum_of, below}
use Rattle.model.specs.Limits.{group_limit}
use Rattle.bits.specs.Bits.{bit, count_below}
use Rattle.ties.specs.TieArrays.{under, Marks}

-- document 02, E3: "one plus the number of its ties up", which are the bits of a mask over slots
unfoldable pub joins_by : ℕ → ℕ
joins_by mask = 1 + count_below group_limit (bit mask)

-- those of holder k, if it is e or has a tie up to a group of the mask m; "summed", over the first n holders
unfoldable pub joins_at : List ℕ → ℕ → ℕ → ℕ → ℕ
joins_at ups m e k = if under ups m e k then joins_by (get_or ups k 0) otherwise 0

unfoldable pub joins_under : List ℕ → ℕ → ℕ → ℕ → ℕ
joins_under ups m e n = sum_of (joins_at ups m e) (below n)

-- r are the joins of all holders of the arrays that are e or below it
pub record JoinsBelow (ups slots : List ℕ) (e r : ℕ) : Type 0 where
  pub mask : ℕ
  pub marks : Marks ups slots e mask
  pub summed : r ≡ joins_under ups mask e (length ups)
