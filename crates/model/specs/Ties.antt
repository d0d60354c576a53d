-- Ties: who stands under whom, and who holds what.
use Rattle.std.specs.Prelude.{ℕ, zero, suc, ◌≡◌, Bool, true, false, ◌&&◌, ◌||◌, not, List, length, eqb}
use Rattle.model.specs.Notation.{any_of, filter}

-- "parent, member and value lines are ties", with holders and pairs by their numbers
pub data Tie : Type 0 where
  parent : (child group : ℕ) → Tie
  member : (party group : ℕ) → Tie
  value : (holder pair : ℕ) → Tie

abbrev pub same_tie : Tie → Tie → Bool
same_tie (parent a b) (parent c d) = eqb a c && eqb b d
same_tie (parent a b) (member c d) = false
same_tie (parent a b) (value c d) = false
same_tie (member a b) (parent c d) = false
same_tie (member a b) (member c d) = eqb a c && eqb b d
same_tie (member a b) (value c d) = false
same_tie (value a b) (parent c d) = false
same_tie (value a b) (member c d) = false
same_tie (value a b) (value c d) = eqb a c && eqb b d

-- "a set T of ties": whether each stands
abbrev pub Ties : Type 0
Ties = Tie → Bool

abbrev pub no_ties : Ties
no_ties t = false

-- "`+t` accepted adds t to T, `-t` removes it"
abbrev pub added : Tie → Ties → Ties
added t T u = same_tie t u || T u

abbrev pub removed : Tie → Ties → Ties
removed t T u = not (same_tie t u) && T u

-- "The edited holder is the first one named"
abbrev pub edited_holder : Tie → ℕ
edited_holder (parent child g) = child
edited_holder (member party g) = party
edited_holder (value h p) = h

-- "each parent (a group) or each group it is a member of (a user or object)": one tie leads from h up to g
abbrev pub up : Ties → ℕ → ℕ → Bool
up T h g = T (parent h g) || T (member h g)

-- "Holder g is above h when a chain of ties leads from h up to g; h is then below g"
pub data Below (T : Ties) : ℕ → ℕ → Type 0 where
  one : {h g : ℕ} → up T h g ≡ true → Below T h g
  more : {h m g : ℕ} → up T h m ≡ true → Below T m g → Below T h g

-- no holder is below itself
abbrev pub Acyclic : Ties → Type 0
Acyclic T = (h : ℕ) → Below T h h → ⊥

-- the holders among hs one tie up from h
abbrev pub ups : List ℕ → Ties → ℕ → List ℕ
ups hs T h = filter (up T h) hs

-- whether a chain of at most n ties leads from h up to g
abbrev pub below_within : ℕ → List ℕ → Ties → ℕ → ℕ → Bool
below_within zero hs T h g = false
below_within (suc n) hs T h g = any_of (λ m. eqb m g || below_within n hs T m g) (ups hs T h)

-- whether h is below g, among the holders hs
unfoldable pub is_below : List ℕ → Ties → ℕ → ℕ → Bool
is_below hs T h g = below_within (length hs) hs T h g

-- "parent tie that closes a circle, itself included": the parent is the child, or below it
unfoldable pub closes_circle : List ℕ → Ties → ℕ → ℕ → Bool
closes_circle hs T child parent' = eqb child parent' || is_below hs T parent' child
