-- What the functions do to the table, for any arrays. The number of holders is that of the words of `ups`. Assumes nothing: these are definitions.
use Rattle.std.specs.Prelude.{ℕ, zero, suc, ◌*◌, ◌/◌, ◌≤◌, ◌<◌, ◌≡◌, Bool, true, false, not, ◌&&◌, ◌||◌, List, get_or, length}
use Rattle.std.specs.Bool.{beq}
use Rattle.model.specs.Limits.{Edition, group_limit, pair_limit, holder_numbers, word_bits}
use Rattle.bits.specs.Bits.{bit, member, holds, any_below}
use Rattle.ties.specs.TieArrays.{in_use, grouped, tied_up, under, Distinct, TellsGroups}

-- the lengths of the arrays of a call
pub record Shaped (ups own slots t : List ℕ) : Type 0 where
  pub own-long : length own ≡ 4 * length ups
  pub slots-long : length slots ≤ group_limit
  pub table-long : length t ≡ 4 * length ups

-- the words of the sets of holders that a call makes for itself: room for the number of holders of the first edition
abbrev pub mark_words : ℕ
mark_words = holder_numbers Edition.first / word_bits

-- f says of each holder which pairs are effective: its own, and those of the groups one tie up; and a tie leads to a slot in use
pub record Solves (ups own slots : List ℕ) (f : ℕ → ℕ → Bool) : Type 0 where
  pub sentence : (k p : ℕ) → k < length ups → p < pair_limit → f k p ≡ (holds own k p || any_below group_limit (λ q. tied_up ups k q && f (get_or slots q 0) p))
  pub used : (k q : ℕ) → k < length ups → q < group_limit → tied_up ups k q ≡ true → in_use (length ups) slots q ≡ true

-- holder k has in the table t exactly the pairs that f says
unfoldable pub RightAt : (ℕ → ℕ → Bool) → List ℕ → ℕ → Type 0
RightAt f t k = (p : ℕ) → p < pair_limit → holds t k p ≡ f k p

-- and so has each group of the mask d
unfoldable pub Right : ℕ → List ℕ → (ℕ → ℕ → Bool) → List ℕ → ℕ → Type 0
Right n slots f t d = (g : ℕ) → g < group_limit → in_use n slots g ≡ true → bit d g ≡ true → RightAt f t (get_or slots g 0)

-- holder k's set is its own pairs with those of the groups of a mask, and the other words are as they were
pub record Stored (own slots : List ℕ) (k mask : ℕ) (t t' : List ℕ) : Type 0 where
  pub pairs : 4 * k < length t → (p : ℕ) → p < pair_limit → holds t' k p ≡ (holds own k p || any_below group_limit (λ q. bit mask q && holds t (get_or slots q 0) p))
  pub others : (j : ℕ) → (j / 4 ≡ k → ⊥) → get_or t' j 0 ≡ get_or t j 0

-- holder k's sets in two tables are not the same
unfoldable pub unlike : List ℕ → List ℕ → ℕ → Bool
unlike t u k = any_below pair_limit (λ p. not (beq (holds t k p) (holds u k p)))

-- from the marks m to m' just those holders are marked too whose sets in t and in u are not the same
pub record MarksChanged (m m' t u : List ℕ) : Type 0 where
  pub marks : (k : ℕ) → member m' k ≡ (member m k || unlike t u k)

-- each chain of ties up from the group of slot g is shorter than n
unfoldable pub ShortChains : List ℕ → List ℕ → ℕ → ℕ → Type 0
ShortChains ups slots zero g = ⊥
ShortChains ups slots (suc n) g = (q : ℕ) → q < group_limit → tied_up ups (get_or slots g 0) q ≡ true → ShortChains ups slots n q

-- a chain of ties leads from the group of slot x up to that of slot g
pub data Chain (ups slots : List ℕ) : ℕ → ℕ → Type 0 where
  one : {x g : ℕ} → g < group_limit → tied_up ups (get_or slots x 0) g ≡ true → Chain ups slots x g
  more : {x m g : ℕ} → Chain ups slots x m → g < group_limit → tied_up ups (get_or slots m 0) g ≡ true → Chain ups slots x g

-- the chains up from a group in use are short, and it is above each group of the mask `path`
unfoldable pub Deep : List ℕ → List ℕ → ℕ → ℕ → ℕ → Type 0
Deep ups slots path n g =
    in_use (length ups) slots g ≡ true → ShortChains ups slots n g × ((x : ℕ) → x < group_limit → bit path x ≡ true → Chain ups slots x g)

-- from the table t and the mask d to t' and d': the mask grows, and what is in it stays right; only words of groups that are new in it change, and
-- where slots are distinct just those groups are marked whose sets changed. Where `deep` holds, the groups of `wanted` are in d'.
pub record Settled (ups own slots t t' m m' : List ℕ) (d d' : ℕ) (deep : Type 0) (wanted : ℕ → Type 0) : Type 0 where
  pub grows : (i : ℕ) → bit d i ≡ true → bit d' i ≡ true
  pub right : (f : ℕ → ℕ → Bool) → Solves ups own slots f → Right (length ups) slots f t d → deep → Right (length ups) slots f t' d'
  pub marked : deep → (g : ℕ) → g < group_limit → in_use (length ups) slots g ≡ true → wanted g → bit d' g ≡ true
  pub others : (j : ℕ)
      → ((q : ℕ) → q < group_limit → in_use (length ups) slots q ≡ true → bit d q ≡ false → bit d' q ≡ true → j / 4 ≡ get_or slots q 0 → ⊥)
      → get_or t' j 0 ≡ get_or t j 0
  pub told : Distinct (length ups) slots → MarksChanged m m' t t'

-- the groups of the mask `path` are not new in d'
unfoldable pub Spared : ℕ → ℕ → ℕ → Type 0
Spared path d d' = (i : ℕ) → bit path i ≡ true → bit d' i ≡ bit d i

-- every group's chains are short
unfoldable pub AllDeep : List ℕ → List ℕ → Type 0
AllDeep ups slots = (g : ℕ) → g < group_limit → in_use (length ups) slots g ≡ true → ShortChains ups slots (length ups) g

-- every group has the pairs that f says
unfoldable pub GroupsRight : ℕ → List ℕ → (ℕ → ℕ → Bool) → List ℕ → Type 0
GroupsRight n slots f t = (g : ℕ) → g < group_limit → in_use n slots g ≡ true → RightAt f t (get_or slots g 0)

-- holder k is a party at e or below it: it is e or has a tie up to a group of the mask, and is no group
unfoldable pub party_below : List ℕ → List ℕ → ℕ → ℕ → ℕ → Bool
party_below ups slot_of below e k = under ups below e k && not (grouped slot_of k)

-- of the first n holders the parties at e or below it are stored, from groups that were right, and those marked whose sets changed
pub record PartiesStored (ups own slots slot_of : List ℕ) (below e : ℕ) (t t' m m' : List ℕ) (n : ℕ) : Type 0 where
  pub right : (f : ℕ → ℕ → Bool) → Solves ups own slots f → GroupsRight (length ups) slots f t → TellsGroups (length ups) slots slot_of
      → (k : ℕ) → k < n → party_below ups slot_of below e k ≡ true → RightAt f t' k
  pub others : (j : ℕ) → (party_below ups slot_of below e (j / 4) ≡ true → j / 4 < n → ⊥) → get_or t' j 0 ≡ get_or t j 0
  pub told : MarksChanged m m' t t'

-- the holders below n that have a tie up are stored, from groups that were right, and what was right stays so
pub record StoredTied (ups own slots t t' : List ℕ) (n : ℕ) : Type 0 where
  pub right : (f : ℕ → ℕ → Bool) → Solves ups own slots f → GroupsRight (length ups) slots f t → (k : ℕ) → k < n → (get_or ups k 0 ≡ 0 → ⊥) → RightAt f t' k
  pub stays : (f : ℕ → ℕ → Bool) → Solves ups own slots f → GroupsRight (length ups) slots f t → (k : ℕ) → RightAt f t k → RightAt f t' k
